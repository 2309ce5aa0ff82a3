use Rattle.std.proofs.Common.{◌≤◌, take, length, arith}
use Rattle.rescue_domain.proofs.SearchLemmas.{found_last, found_range_down, none_below, last_of_front}
use Rattle.rescue_domain.proofs.domain.Domain.last_in.Goals as goal

pub returns-in_err-part-clause-none : goal.returns-in_err-part-clause-none
returns-in_err-part-clause-none c =
    let h = rw c.deref.ensures.value at c.begun_before-begun.ensures in
    let l : length (take c.begun_before-begun.result c.self.inside.parts.items) ≤ 0 =
    rw c.deref-2.ensures.value at c.in_err-part.ensures.item.3 in
    rw (c.from_residual.ensures, ← c.self.view_is) (none_below _ _ _ h.others h.index l)

pub returns-clause-last : goal.returns-clause-last
returns-clause-last c =
    let h = rw c.deref.ensures.value at c.begun_before-begun.ensures in
    let read = rw c.deref-2.ensures.value at c.in_ok-part.ensures.value in
    let k = last_of_front _ _ _ h.index read in
    let begun = h.begun _ _ (omega (arith, k.some)) k.there in
    let found = found_last _ _ _ c.self.invariant k.there _ (λ i other l e. h.others i other (omega arith) e) begun in
    rw (← c.self.view_is, c.min.ensures) found

pub returns-clause-range : goal.returns-clause-range
returns-clause-range c =
    let h = rw c.deref.ensures.value at c.begun_before-begun.ensures in
    let read = rw c.deref-2.ensures.value at c.in_ok-part.ensures.value in
    let k = last_of_front _ _ _ h.index read in
    let begun = h.begun _ _ (omega (arith, k.some)) k.there in
    let found = found_range_down _ _ _ c.self.invariant k.there _ begun in
    rw (← c.self.view_is, c.min.ensures) found
