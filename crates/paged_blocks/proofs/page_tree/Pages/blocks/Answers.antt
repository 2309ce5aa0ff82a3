use Rattle.std.proofs.Common.{ap, sym, ◌∙◌, length}
use Rattle.paged_blocks.proofs.KeptLemmas.{stretches_of_paging}
use Rattle.paged_blocks.proofs.page_tree.Pages.blocks.Goals as goal

pub returns : goal.returns
returns c =
    rw (← c.self.view_is)
    (rw c.deref.ensures.value at c.blocks-2.ensures
    ∙ ap length (sym (stretches_of_paging _ _ c.self.invariant.kept.paging)))
