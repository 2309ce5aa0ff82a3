use Rattle.std.proofs.Common.{arith}
use Rattle.plain_blocks.proofs.EditLemmas.{no_block}
use Rattle.block_pages.proofs.PageLemmas.{alike, page_size, rows_begin, rising_rows, searched_rows}
use Rattle.block_pages.proofs.page.Page.before.Goals as goal

pub last_before-requires-clause-sorted : goal.last_before-requires-clause-sorted
last_before-requires-clause-sorted g c =
    rw c.deref.ensures.0 (rising_rows _ _ _ (alike _ c.self.invariant) (rw (← c.self.view_is) at c.requires.sorted))

pub returns-clause-place : goal.returns-clause-place
returns-clause-place g c =
    rw (← c.self.view_is) (searched_rows _ _ _ _ _ (alike _ c.self.invariant) (rw c.deref.ensures.0 at c.last_before.ensures.place))

pub returns-clause-cost : goal.returns-clause-cost
returns-clause-cost g c = c.last_before.ensures.cost 6 (rw c.deref.ensures.0 c.self.invariant.fits)

pub last_before-requires-clause-first : goal.last_before-requires-clause-first
last_before-requires-clause-first g c = λ d.
    let f = rw (← c.self.view_is) at (c.requires.first no_block) in
    rw c.deref.ensures.0 (omega (
      arith,
      f,
      rows_begin _ _ c.self.inside.end 0 d no_block (alike _ c.self.invariant)
          (omega (arith, c.requires.some, page_size _ _ c.self.view_is c.self.invariant)),
    ))
