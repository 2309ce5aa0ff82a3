use Rattle.std.proofs.Common.{◌<◌, length}
use Rattle.paged_blocks.specs.Paging.{flat}
use Rattle.paged_blocks.proofs.KeptLemmas.{stretches_of_paging}
use Rattle.paged_blocks.proofs.page_tree.Pages.block.Goals as goal

pub block_at-requires-clause-index : goal.block_at-requires-clause-index
block_at-requires-clause-index c =
    let h : c.args.i < length (flat c.self.inside.pages.items c.self.inside.entries.items) =
    rw (← c.self.view_is, stretches_of_paging _ _ c.self.invariant.kept.paging) at c.requires in
    rw c.deref.ensures.value h

pub returns : goal.returns
returns c =
    rw (← c.self.view_is, stretches_of_paging _ _ c.self.invariant.kept.paging)
    (rw c.deref.ensures.value at c.block_at.ensures)
