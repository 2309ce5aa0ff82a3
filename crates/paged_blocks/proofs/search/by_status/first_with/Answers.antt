use Rattle.std.proofs.Common.{◌≡◌, ◌+◌, arith, refl}
use Rattle.paged_blocks.specs.Paging.{before}
use Rattle.paged_blocks.proofs.PagingLemmas.{no_entry}
use Rattle.paged_blocks.proofs.StepLemmas.{one_page, two_pages, looks_one, looks_two}
use Rattle.paged_blocks.proofs.FindLemmas.{page_filled, read_short, first_found, first_range, bare_start, bare_rest, bare_up, reaches_page, held_has, held_after, held_below, not_bare}
use Rattle.paged_blocks.proofs.KeptLemmas.{entries_short}
use Rattle.paged_blocks.proofs.search.by_status.first_with.Goals as goal

pub first_in-requires-clause-filled : goal.first_in-requires-clause-filled
first_in-requires-clause-filled g c =
    rw (c.at.ensures no_entry) (page_filled _ _ _ no_entry c.requires.paging c.held_counted-held.ensures.held.entry)

pub first_in-requires-clause-entry : goal.first_in-requires-clause-entry
first_in-requires-clause-entry g c =
    rw (c.at.ensures no_entry) (c.requires.paging.each _ no_entry c.held_counted-held.ensures.held.entry)

pub overflow_step-k : goal.overflow_step-k
overflow_step-k g c = omega (arith, entries_short _ _ c.requires.paging, c.held_counted-held.ensures.held.entry)

pub range_up-requires : goal.range_up-requires
range_up-requires g c =
    let f = c.in-Some.ensures.found in
    omega (arith, read_short _ _ _ _ no_entry _ c.requires.paging c.held_counted-held.ensures.held.entry (rw (c.at.ensures no_entry) at f.read))

pub returns-in-Some-clause-first : goal.returns-in-Some-clause-first
returns-in-Some-clause-first g c =
    let h = c.held_counted-held.ensures.held in
    rw c.range_up.ensures (first_found _ _ _ no_entry _ _ _ _ c.requires.paging h.entry (rw (c.at.ensures no_entry) at c.in-Some.ensures.found)
    (bare_start _ _ _ _ _ _ h) (held_after _ _ _ _ _ h))

pub returns-in-Some-clause-range : goal.returns-in-Some-clause-range
returns-in-Some-clause-range g c =
    let h = c.held_counted-held.ensures.held in
    rw c.range_up.ensures (first_range _ _ _ no_entry _ _ _ _ c.requires.paging h.entry (rw (c.at.ensures no_entry) at c.in-Some.ensures.found)
    (held_after _ _ _ _ _ h))

pub returns-in-Some-clause-cost : goal.returns-in-Some-clause-cost
returns-in-Some-clause-cost g c =
    looks_one _ _ _ _ _ (omega (arith, c.held_counted-held.ensures.held.entry))
    (one_page _ _ c.requires.paging c.requires.half) c.held_counted-held.ensures.cost
    (omega (arith, c.tick.ensures, c.first_in.ensures.cost.few))

pub returns-in-Some-clause-there : goal.returns-in-Some-clause-there
returns-in-Some-clause-there g c = λ q.
    omega (
      arith,
      c.held_counted-held.ensures.few,
      c.tick.ensures,
      c.first_in.ensures.there (rw (c.at.ensures no_entry) (held_has _ _ _ _ _ no_entry _ c.requires.paging c.held_counted-held.ensures.held q)),
    )

pub loop-k-init : goal.loop-k-init
loop-k-init g c =
    let h = c.held_counted-held.ensures.held in
    record {
      bare = bare_rest _ _ _ no_entry _ _ _ c.requires.paging h.entry (omega (arith, h.within no_entry))
          (rw (c.at.ensures no_entry) at c.in_default.ensures.none) (bare_start _ _ _ _ _ _ h);
      cost = omega arith;
    }

pub first_in-requires-in-loop-k-clause-filled : goal.first_in-requires-in-loop-k-clause-filled
first_in-requires-in-loop-k-clause-filled g c =
    rw (c.at-in-loop-k.ensures no_entry) (page_filled _ _ _ no_entry c.requires.paging (rw c.len-k-end.ensures at c.loop-k-test.true))

pub first_in-requires-in-loop-k-clause-entry : goal.first_in-requires-in-loop-k-clause-entry
first_in-requires-in-loop-k-clause-entry g c =
    rw (c.at-in-loop-k.ensures no_entry) (c.requires.paging.each _ no_entry (rw c.len-k-end.ensures at c.loop-k-test.true))

pub range_up-requires-in-Some-first_in : goal.range_up-requires-in-Some-first_in
range_up-requires-in-Some-first_in g c =
    let f = c.in-Some-first_in.ensures.found in
    omega (
      arith,
      read_short _ _ _ _ no_entry _ c.requires.paging (rw c.len-k-end.ensures at c.loop-k-test.true)
          (rw (c.at-in-loop-k.ensures no_entry) at f.read),
    )

pub returns-in-Some-first_in-clause-first : goal.returns-in-Some-first_in-clause-first
returns-in-Some-first_in-clause-first g c =
    let h = c.held_counted-held.ensures.held in
    let z : before c.args.pages.now c.args.entries.now.items c.loop-k.k + 0 ≡ before c.args.pages.now c.args.entries.now.items c.loop-k.k = omega arith in
    rw c.range_up-in-Some-first_in.ensures (first_found _ _ _ no_entry _ _ _ _ c.requires.paging (rw c.len-k-end.ensures at c.loop-k-test.true)
    (rw (c.at-in-loop-k.ensures no_entry) at c.in-Some-first_in.ensures.found) (rw z c.loop-k.invariant.bare)
    (reaches_page _ _ _ _ _ _ no_entry h (omega arith)))

pub returns-in-Some-first_in-clause-range : goal.returns-in-Some-first_in-clause-range
returns-in-Some-first_in-clause-range g c =
    let h = c.held_counted-held.ensures.held in
    rw c.range_up-in-Some-first_in.ensures (first_range _ _ _ no_entry _ _ _ _ c.requires.paging (rw c.len-k-end.ensures at c.loop-k-test.true)
    (rw (c.at-in-loop-k.ensures no_entry) at c.in-Some-first_in.ensures.found) (reaches_page _ _ _ _ _ _ no_entry h (omega arith)))

pub returns-in-Some-first_in-clause-cost : goal.returns-in-Some-first_in-clause-cost
returns-in-Some-first_in-clause-cost g c =
    let h = c.held_counted-held.ensures.held in
    looks_two _ _ _ _ _ _ _ _ _ (omega arith)
    (two_pages _ _ c.held_counted-held.result.0 c.loop-k.k no_entry c.requires.paging c.requires.half (omega arith)
    (rw c.len-k-end.ensures at c.loop-k-test.true))
    c.held_counted-held.ensures.cost (c.requires.paging.each _ no_entry h.entry).fits
    (rw (c.tick.ensures, c.at.ensures no_entry) at c.in_default.ensures.missed)
    (omega (arith, c.tick-in-loop-k.ensures, c.loop-k.invariant.cost)) (rw (c.at-in-loop-k.ensures no_entry) at c.first_in-in-loop-k.ensures.cost)

pub returns-in-Some-first_in-clause-there : goal.returns-in-Some-first_in-clause-there
returns-in-Some-first_in-clause-there g c = λ q.
    absurd (not_bare _ _ _ _ q (held_below _ _ _ _ _ _ c.held_counted-held.ensures.held (omega arith)) c.loop-k.invariant.bare)

pub loop-k-preserved : goal.loop-k-preserved
loop-k-preserved g c =
    let z : before c.args.pages.now c.args.entries.now.items c.loop-k.k + 0 ≡ before c.args.pages.now c.args.entries.now.items c.loop-k.k = omega arith in
    record {
      bare = bare_rest _ _ _ no_entry 0 _ _ c.requires.paging (rw c.len-k-end.ensures at c.loop-k-test.true) (omega arith)
          (rw (c.at-in-loop-k.ensures no_entry) at c.in_default-first_in.ensures.none) (rw z c.loop-k.invariant.bare);
      cost = omega (arith, c.tick-in-loop-k.ensures, c.loop-k.invariant.cost, c.in_default-first_in.ensures.passed refl);
    }

pub returns-clause-none : goal.returns-clause-none
returns-clause-none g c = bare_up _ _ _ _ _ (rw c.len-k-end.ensures at c.loop-k-test.false) c.loop-k.invariant.bare

pub returns-clause-cost : goal.returns-clause-cost
returns-clause-cost g c =
    looks_one _ _ _ _ _ (omega (arith, c.held_counted-held.ensures.held.entry))
    (one_page _ _ c.requires.paging c.requires.half) c.held_counted-held.ensures.cost
    (omega (arith, c.tick.ensures, c.first_in.ensures.cost.few, c.loop-k.invariant.cost, c.held_counted-held.ensures.held.entry))
