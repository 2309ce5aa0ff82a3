-- Areas of a set, and its ranges.
use Rattle.std.proofs.Common.{◌≡◌, ℕ, zero, suc, ◌+◌, ◌<◌, Bool, true, false, not, sym, arith, ⊎_elim, subst}
use Rattle.std.proofs.lemmas.Bool.{cases_Bool, cases_eq, and_parts, and_from, not-true, not_from_false, both_ways, false_from_ne_true}
use Rattle.block_list.specs.Places.{IsRangeUp}
use Rattle.rescue_domain.specs.Domain.{IsIn}
use Rattle.block_list.specs.Areas.{begins_area}
use Rattle.map_algebra.specs.Laws.{AreasAreRanges}

-- a range that begins here, in a set of which no position lies n or more past it
range_from : (set : ℕ → Bool) (n x : ℕ) → IsIn set x → ((y : ℕ) → IsIn set y → y < x + n)
    → (end : ℕ) × IsRangeUp (IsIn set) x end
range_from set zero x i b = absurd (omega (arith, b x i))
range_from set (suc n) x i b =
    ⊎_elim
    (λ (t : set (x + 1) ≡ true).
    let k = range_from set n (x + 1) t (λ y j. omega (arith, b y j)) in (
      k.0,
      record {
        begun = omega (arith, k.1.begun);
        within = λ y l u. ⊎_elim (λ (e : y ≡ x). subst (IsIn set) (sym e) i)
            (λ ne. k.1.within y (omega (arith, ne, l)) u) (cases_eq y x);
        stops = k.1.stops;
      },
    ))
    (λ (f : set (x + 1) ≡ false). (
      x + 1,
      record {
        begun = omega arith;
        within = λ y l u. let e : x ≡ y = omega (arith, l, u) in subst (IsIn set) e i;
        stops = λ t. both_ways (set (x + 1)) f t;
      },
    ))
    (cases_Bool (set (x + 1)))

area_range : (set : ℕ → Bool) (bound x : ℕ) → ((y : ℕ) → IsIn set y → y < bound) → begins_area set x ≡ true
    → ((end : ℕ) × IsRangeUp (IsIn set) x end × ((y : ℕ) → y + 1 ≡ x → IsIn set y → ⊥))
area_range set bound zero b h =
    let k = range_from set bound 0 h (λ y j. omega (arith, b y j)) in
    (k.0, k.1, λ y e. absurd (omega (arith, e)))
area_range set bound (suc x) b h =
    let p = and_parts (set (suc x)) (not (set x)) h in
    let k = range_from set bound (suc x) p.0 (λ y j. omega (arith, b y j)) in
    (k.0, k.1, λ y e j. let w : y ≡ x = omega (arith, e) in both_ways (set x) (not-true (set x) p.1) (subst (IsIn set) w j))

range_area : (set : ℕ → Bool) (x : ℕ)
    → ((end : ℕ) × IsRangeUp (IsIn set) x end × ((y : ℕ) → y + 1 ≡ x → IsIn set y → ⊥))
    → begins_area set x ≡ true
range_area set zero k = k.1.within 0 (omega arith) k.1.begun
range_area set (suc x) k =
    and_from (set (suc x)) (not (set x)) (k.1.within (suc x) (omega arith) k.1.begun)
    (not_from_false (set x) (false_from_ne_true (set x) (k.2 x (omega arith))))

pub areas_are_ranges : AreasAreRanges
areas_are_ranges set bound x b = (area_range set bound x b, range_area set x)
