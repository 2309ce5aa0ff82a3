use Rattle.std.proofs.Common.{◌≡◌, ◌+◌, ◌-◌, ◌<◌, ◌∙◌, length, arith, ap}
use Rattle.paged_blocks.specs.Paging.{before}
use Rattle.paged_blocks.proofs.PagingLemmas.{no_entry}
use Rattle.paged_blocks.proofs.StepLemmas.{one_page, two_pages_down, looks_one, looks_two}
use Rattle.paged_blocks.proofs.FindLemmas.{page_filled, read_short, last_found, last_range, bare_end, bare_front, begun_below, begun_in_front, begun_front, held_end, whole_page, not_bare_down}
use Rattle.paged_blocks.proofs.search.by_status.last_with.Goals as goal

pub last_in-requires-clause-filled : goal.last_in-requires-clause-filled
last_in-requires-clause-filled g c =
    rw (c.at.ensures no_entry) (page_filled _ _ _ no_entry c.requires.paging c.held_counted-held.ensures.held.entry)

pub last_in-requires-clause-entry : goal.last_in-requires-clause-entry
last_in-requires-clause-entry g c =
    rw (c.at.ensures no_entry) (c.requires.paging.each _ no_entry c.held_counted-held.ensures.held.entry)

pub range_down-requires : goal.range_down-requires
range_down-requires g c =
    let f = c.in-Some.ensures.found in
    omega (arith, read_short _ _ _ _ no_entry _ c.requires.paging c.held_counted-held.ensures.held.entry (rw (c.at.ensures no_entry) at f.read))

pub returns-in-Some-clause-last : goal.returns-in-Some-clause-last
returns-in-Some-clause-last g c =
    let h = c.held_counted-held.ensures.held in
    rw c.range_down.ensures (last_found _ _ _ no_entry _ _ _ _ c.requires.paging h.entry (h.within no_entry)
    (rw (c.at.ensures no_entry) at c.in-Some.ensures.found) (bare_end _ _ _ _ _ _ h) (begun_below _ _ _ _ _ h))

pub returns-in-Some-clause-range : goal.returns-in-Some-clause-range
returns-in-Some-clause-range g c =
    let h = c.held_counted-held.ensures.held in
    rw c.range_down.ensures (last_range _ _ _ no_entry _ _ _ _ c.requires.paging h.entry (h.within no_entry)
    (rw (c.at.ensures no_entry) at c.in-Some.ensures.found) (begun_below _ _ _ _ _ h))

pub returns-in-Some-clause-cost : goal.returns-in-Some-clause-cost
returns-in-Some-clause-cost g c =
    looks_one _ _ _ _ _ (omega (arith, c.held_counted-held.ensures.held.entry))
    (one_page _ _ c.requires.paging c.requires.half) c.held_counted-held.ensures.cost
    (omega (arith, c.tick.ensures, c.last_in.ensures.cost.few))

pub returns-in-Some-clause-there : goal.returns-in-Some-clause-there
returns-in-Some-clause-there g c = λ q.
    omega (
      arith,
      c.held_counted-held.ensures.few,
      c.tick.ensures,
      c.last_in.ensures.there (rw (c.at.ensures no_entry) (held_end _ _ _ _ _ no_entry _ c.requires.paging c.held_counted-held.ensures.held q)),
    )

pub loop-k-init : goal.loop-k-init
loop-k-init g c =
    let h = c.held_counted-held.ensures.held in
    record {
      bare = bare_front _ _ _ no_entry _ _ _ c.requires.paging h.entry (h.within no_entry) (rw (c.at.ensures no_entry) at c.in_default.ensures.none)
          (bare_end _ _ _ _ _ _ h);
      cost = omega arith;
    }

pub last_in-requires-in-loop-k-clause-filled : goal.last_in-requires-in-loop-k-clause-filled
last_in-requires-in-loop-k-clause-filled g c =
    rw (c.at-entry.ensures no_entry) (page_filled _ _ _ no_entry c.requires.paging (omega (arith, c.held_counted-held.ensures.held.entry)))

pub last_in-requires-in-loop-k-clause-entry : goal.last_in-requires-in-loop-k-clause-entry
last_in-requires-in-loop-k-clause-entry g c =
    rw (c.at-entry.ensures no_entry) (c.requires.paging.each _ no_entry (omega (arith, c.held_counted-held.ensures.held.entry)))

pub last_in-requires-in-loop-k-clause-index : goal.last_in-requires-in-loop-k-clause-index
last_in-requires-in-loop-k-clause-index g c =
    let l : c.loop-k.k - 1 < length c.args.entries.now.items = omega (arith, c.held_counted-held.ensures.held.entry) in
    let e = c.requires.paging.each (c.loop-k.k - 1) no_entry l in
    rw (c.at-entry.ensures no_entry) (omega (arith, e.len))

pub range_down-requires-in-Some-last_in : goal.range_down-requires-in-Some-last_in
range_down-requires-in-Some-last_in g c =
    let f = c.in-Some-last_in.ensures.found in
    let l : c.loop-k.k - 1 < length c.args.entries.now.items = omega (arith, c.held_counted-held.ensures.held.entry) in
    omega (arith, read_short _ _ _ _ no_entry _ c.requires.paging l (rw (c.at-entry.ensures no_entry) at f.read))

pub returns-in-Some-last_in-clause-last : goal.returns-in-Some-last_in-clause-last
returns-in-Some-last_in-clause-last g c =
    let h = c.held_counted-held.ensures.held in
    let l : c.loop-k.k - 1 < length c.args.entries.now.items = omega (arith, h.entry) in
    let e = c.requires.paging.each (c.loop-k.k - 1) no_entry l in
    let y : c.loop-k.k - 1 + 1 ≡ c.loop-k.k = omega arith in
    let z = whole_page c.args.pages.now c.args.entries.now.items (c.loop-k.k - 1) no_entry _ l e.len
    ∙ ap (λ n. before c.args.pages.now c.args.entries.now.items n) y in
    rw c.range_down-in-Some-last_in.ensures (last_found _ _ _ no_entry _ _ _ _ c.requires.paging l (omega (arith, e.len))
    (rw (c.at-entry.ensures no_entry) at c.in-Some-last_in.ensures.found) (rw z c.loop-k.invariant.bare)
    (λ i u. begun_in_front _ _ _ _ _ _ no_entry h (omega arith) i (omega (arith, e.len))))

pub returns-in-Some-last_in-clause-range : goal.returns-in-Some-last_in-clause-range
returns-in-Some-last_in-clause-range g c =
    let h = c.held_counted-held.ensures.held in
    let l : c.loop-k.k - 1 < length c.args.entries.now.items = omega (arith, h.entry) in
    let e = c.requires.paging.each (c.loop-k.k - 1) no_entry l in
    rw c.range_down-in-Some-last_in.ensures (last_range _ _ _ no_entry _ _ _ _ c.requires.paging l (omega (arith, e.len))
    (rw (c.at-entry.ensures no_entry) at c.in-Some-last_in.ensures.found)
    (λ i u. begun_in_front _ _ _ _ _ _ no_entry h (omega arith) i (omega (arith, e.len))))

pub returns-in-Some-last_in-clause-cost : goal.returns-in-Some-last_in-clause-cost
returns-in-Some-last_in-clause-cost g c =
    let h = c.held_counted-held.ensures.held in
    looks_two _ _ _ _ _ _ _ _ _ (omega (arith, h.entry))
    (two_pages_down _ _ c.held_counted-held.result.0 (c.loop-k.k - 1) no_entry c.requires.paging c.requires.half
    (omega arith) h.entry) c.held_counted-held.ensures.cost (c.requires.paging.each _ no_entry h.entry).fits
    (rw (c.tick.ensures, c.at.ensures no_entry) at c.in_default.ensures.missed)
    (omega (arith, c.tick-in-loop-k.ensures, c.loop-k.invariant.cost, h.entry)) (rw (c.at-entry.ensures no_entry) at c.last_in-in-loop-k.ensures.cost)

pub returns-in-Some-last_in-clause-there : goal.returns-in-Some-last_in-clause-there
returns-in-Some-last_in-clause-there g c = λ q.
    absurd (not_bare_down _ _ _ _ q (begun_front _ _ _ _ _ _ c.held_counted-held.ensures.held (omega arith)) c.loop-k.invariant.bare)

pub loop-k-preserved : goal.loop-k-preserved
loop-k-preserved g c =
    let h = c.held_counted-held.ensures.held in
    let l : c.loop-k.k - 1 < length c.args.entries.now.items = omega (arith, h.entry) in
    let e = c.requires.paging.each (c.loop-k.k - 1) no_entry l in
    let y : c.loop-k.k - 1 + 1 ≡ c.loop-k.k = omega arith in
    let z = whole_page c.args.pages.now c.args.entries.now.items (c.loop-k.k - 1) no_entry _ l e.len
    ∙ ap (λ n. before c.args.pages.now c.args.entries.now.items n) y in
    record {
      bare = bare_front _ _ _ no_entry _ _ _ c.requires.paging l (omega (arith, e.len))
          (rw (c.at-entry.ensures no_entry) at c.in_default-last_in.ensures.none) (rw z c.loop-k.invariant.bare);
      cost = omega (arith, c.tick-in-loop-k.ensures, c.loop-k.invariant.cost, c.in_default-last_in.ensures.passed (rw (c.at-entry.ensures no_entry) e.len));
    }

pub returns-clause-cost : goal.returns-clause-cost
returns-clause-cost g c =
    looks_one _ _ _ _ _ (omega (arith, c.held_counted-held.ensures.held.entry))
    (one_page _ _ c.requires.paging c.requires.half) c.held_counted-held.ensures.cost
    (omega (arith, c.tick.ensures, c.last_in.ensures.cost.few, c.loop-k.invariant.cost, c.held_counted-held.ensures.held.entry))
