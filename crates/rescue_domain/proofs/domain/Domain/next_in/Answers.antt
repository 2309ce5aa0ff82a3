use Rattle.std.proofs.Common.{◌≤◌, length, refl, arith}
use Rattle.std.proofs.lemmas.Option.{slice_get_read}
use Rattle.rescue_domain.proofs.SearchLemmas.{found_first, found_range_up, none_from}
use Rattle.rescue_domain.proofs.domain.Domain.next_in.Goals as goal

pub returns-in_err-part-clause-none : goal.returns-in_err-part-clause-none
returns-in_err-part-clause-none c =
    let h = rw c.deref.ensures.value at c.ended_by-ended.ensures in
    let l : length c.self.inside.parts.items ≤ c.ended_by-ended.result =
    rw c.deref-2.ensures.value at c.in_err-part.ensures.lookup.3 in
    rw (c.from_residual.ensures, ← c.self.view_is) (none_from _ _ _ h.ended l)

pub returns-clause-first : goal.returns-clause-first
returns-clause-first c =
    let h = rw c.deref.ensures.value at c.ended_by-ended.ensures in
    let read = rw c.deref-2.ensures.value at c.in_ok-part.ensures.lookup in
    let there = slice_get_read _ _ _ _ refl read.3.0 read.1 in
    let found = found_first _ _ _ c.self.invariant there _ h.ended (h.others _ _ (omega arith) there) in
    rw (← c.self.view_is, c.max.ensures) found

pub returns-clause-range : goal.returns-clause-range
returns-clause-range c =
    let h = rw c.deref.ensures.value at c.ended_by-ended.ensures in
    let read = rw c.deref-2.ensures.value at c.in_ok-part.ensures.lookup in
    let there = slice_get_read _ _ _ _ refl read.3.0 read.1 in
    let found = found_range_up _ _ _ c.self.invariant there _ (h.others _ _ (omega arith) there) in
    rw (← c.self.view_is, c.max.ensures) found
