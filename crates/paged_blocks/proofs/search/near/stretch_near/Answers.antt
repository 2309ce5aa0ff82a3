use Rattle.std.proofs.Common.{◌≡◌, ◌+◌, ◌-◌, arith}
use Rattle.paged_blocks.proofs.PagingLemmas.{no_entry, stretch_in_page}
use Rattle.paged_blocks.proofs.search.near.stretch_near.Goals as goal

pub returns : goal.returns
returns c =
    let z : c.held_near-held.result.block + 1 - 1 ≡ c.held_near-held.result.block = omega arith in
    stretch_in_page _ _ _ _ _ no_entry _ _ c.requires.paging c.held_near-held.ensures
    (rw (c.at.ensures no_entry) at c.index-pages-at.is) (rw z c.block.ensures)
