use Rattle.paged_blocks.proofs.PagingLemmas.{no_entry, stretch_in_page}
use Rattle.paged_blocks.proofs.search.by_position.stretch_at.Goals as goal

pub returns : goal.returns
returns c =
    stretch_in_page _ _ _ _ _ no_entry _ _ c.requires.paging c.held_before-last.ensures
    (rw (c.at.ensures no_entry) at c.index-pages-at.is) c.block.ensures
