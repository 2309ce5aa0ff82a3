-- How much of a set lies below a position.
use Rattle.std.proofs.Common.{◌≡◌, ℕ, zero, suc, ◌+◌, ◌-◌, ◌<◌, ◌≤◌, Bool, true, false, not, ◌&&◌, cond, List, [], ◌∷◌, ap, sym, ◌∙◌, refl, arith}
use Rattle.std.specs.List.{count_by, list_any, range_with_len}
use Rattle.std.proofs.Math.Bool.{or-false}
use Rattle.std.proofs.Math.Path.{fun_ext}
use Rattle.std.proofs.lemmas.List.FromFn.{length-range_with_len}
use Rattle.std.proofs.lemmas.List.Sums.{sum_by-cons, count_by-le-length}
use Rattle.block_list.specs.declared.status.Status.{Status}
use Rattle.block_list.specs.Status.{same}
use Rattle.rescue_domain.specs.Stretch.{IsConstant}
use Rattle.block_list.specs.declared.areas.Count.{Count}
use Rattle.map_counts.specs.At.{status_at}
use Rattle.block_list.specs.Areas.{begins_area, count_of}
use Rattle.rescue_domain.proofs.SizeLemmas.{one_if}
use Rattle.map_counts.specs.Summary.{count_from, has_one, has_status}

-- how many of n positions from one on are in a set
abbrev counted : (ℕ → Bool) → ℕ → ℕ → ℕ
counted set from n = count_by set (range_with_len from n)

counted_first : (set : ℕ → Bool) (from n : ℕ) → counted set from (suc n) ≡ one_if (set from) + counted set (from + 1) n
counted_first set from n = sum_by-cons (λ x. one_if (set x)) from (range_with_len (from + 1) n)

counted_last : (set : ℕ → Bool) (from n : ℕ) → counted set from (suc n) ≡ counted set from n + one_if (set (from + n))
counted_last set from zero =
    let z : from + 0 ≡ from = omega arith in omega (arith, counted_first set from 0, ap (λ k. one_if (set k)) z)
counted_last set from (suc n) =
    let z : from + 1 + n ≡ from + suc n = omega arith in
    omega (
      arith,
      counted_first set from (suc n),
      counted_last set (from + 1) n,
      counted_first set from n,
      ap (λ k. one_if (set k)) z,
    )

nothing : (b : Bool) → cond {A = ℕ} b 0 0 ≡ 0
nothing true = refl
nothing false = refl

one_more : (b : Bool) (n : ℕ) → cond {A = ℕ} b (suc n) 0 ≡ cond b n 0 + one_if b
one_more true n = omega arith
one_more false n = refl

-- n more positions that are all in the set, or none, after m of them
counted_more : (set : ℕ → Bool) (from m n : ℕ) (v : Bool) → ((x : ℕ) → from + m ≤ x → x < from + m + n → set x ≡ v)
    → counted set from (m + n) ≡ counted set from m + cond v n 0
counted_more set from m zero v h =
    let z : m + 0 ≡ m = omega arith in
    omega (arith, ap (λ k. counted set from k) z, nothing v)
counted_more set from m (suc n) v h =
    let z : m + suc n ≡ suc (m + n) = omega arith in
    omega (
      arith,
      ap (λ k. counted set from k) z,
      counted_last set from (m + n),
      counted_more set from m n v (λ x l u. h x l (omega (arith, u))),
      ap one_if (h (from + (m + n)) (omega arith) (omega arith)),
      one_more v n,
    )

-- the position right in front of one is in a set
abbrev pub is_open : (set : ℕ → Bool) → ℕ → Bool
is_open set zero = false
is_open set (suc x) = set x

begins_here : (set : ℕ → Bool) (x : ℕ) → begins_area set x ≡ (set x && not (is_open set x))
begins_here set zero = elim (set 0) as (λ b. b ≡ (b && true)) [ true ↦ refl | false ↦ refl ]
begins_here set (suc x) = refl

-- no area begins after the first of positions that are alike
begins_later : (set : ℕ → Bool) (from to x : ℕ) (v : Bool) → IsConstant set from to v → from < x → x < to
    → begins_area set x ≡ false
begins_later set from to zero v k l u = absurd (omega (arith, l))
begins_later set from to (suc x) v k l u =
    let here : set (suc x) ≡ v = k.each (suc x) (omega (arith, l)) u in
    let before : set x ≡ v = k.each x (omega (arith, l)) (omega (arith, u)) in
    ap (λ b. b && not (set x)) here ∙ ap (λ b. v && not b) before
    ∙ (elim v as (λ b. (b && not b) ≡ false) [ true ↦ refl | false ↦ refl ])

-- what was counted from one position up to another, and whether the one in front of that is in the set
pub record IsCounted (set : ℕ → Bool) (from at : ℕ) (count : Count) (open_ : Bool) : Type 0 where
  pub after : from ≤ at
  pub bytes : count.bytes ≡ counted set from (at - from)
  pub areas : count.areas ≡ counted (begins_area set) from (at - from)
  pub in_front : open_ ≡ is_open set at

pub few : (set : ℕ → Bool) (from at : ℕ) (count : Count) (o : Bool) → IsCounted set from at count o
    → (count.bytes ≤ at) × (count.areas ≤ at)
few set from at count o k = (
  omega (
    arith,
    k.bytes,
    count_by-le-length set (range_with_len from (at - from)),
    length-range_with_len from (at - from),
  ),
  omega (
    arith,
    k.areas,
    count_by-le-length (begins_area set) (range_with_len from (at - from)),
    length-range_with_len from (at - from),
  ),
)

pub none_counted : (set : ℕ → Bool) (from : ℕ) (count : Count) (o : Bool) → count.bytes ≡ 0 → count.areas ≡ 0
    → o ≡ is_open set from → IsCounted set from from count o
none_counted set from count o b a f =
    let z : from - from ≡ 0 = omega arith in
    record {
      after = omega arith;
      bytes = b ∙ sym (ap (λ k. counted set from k) z);
      areas = a ∙ sym (ap (λ k. counted (begins_area set) from k) z);
      in_front = f;
    }

areas_more : (set : ℕ → Bool) (from m n : ℕ) (v o : Bool) → IsConstant set (from + m) (from + m + suc n) v
    → o ≡ is_open set (from + m)
    → counted (begins_area set) from (m + suc n) ≡ counted (begins_area set) from m + cond (v && not o) 1 0
areas_more set from m n v o k e =
    let z : m + suc n ≡ (m + 1) + n = omega arith in
    let y : m + 1 ≡ suc m = omega arith in
    let rest = counted_more (begins_area set) from (m + 1) n false
    (λ x l u. begins_later set (from + m) (from + m + suc n) x v k (omega (arith, l)) (omega (arith, u))) in
    let here : begins_area set (from + m) ≡ (v && not o) =
    begins_here set (from + m) ∙ ap (λ b. b && not (is_open set (from + m))) (k.each (from + m) (omega arith) (omega arith))
    ∙ ap (λ b. v && not b) (sym e) in
    omega (
      arith,
      ap (λ j. counted (begins_area set) from j) z,
      rest,
      ap (λ j. counted (begins_area set) from j) y,
      counted_last (begins_area set) from m,
      ap one_if here,
    )

open_past : (set : ℕ → Bool) (at to : ℕ) (v : Bool) → IsConstant set at to v → v ≡ is_open set to
open_past set at zero v k = absurd (omega (arith, k.some))
open_past set at (suc x) v k = sym (k.each x (omega (arith, k.some)) (omega arith))

pub counted_piece : (set : ℕ → Bool) (from at to : ℕ) (v o : Bool) (count next : Count) → IsCounted set from at count o
    → IsConstant set at to v → next.bytes ≡ count.bytes + cond v (to - at) 0
    → next.areas ≡ count.areas + cond (v && not o) 1 0 → IsCounted set from to next v
counted_piece set from at to v o count next c k b a =
    let m : ℕ = at - from in
    let n : ℕ = to - at - 1 in
    let here : from + m ≡ at = omega (arith, c.after) in
    let there : from + m + suc n ≡ to = omega (arith, c.after, k.some) in
    let some : suc n ≡ to - at = omega (arith, k.some) in
    let all : m + suc n ≡ to - from = omega (arith, c.after, k.some) in
    let piece : IsConstant set (from + m) (from + m + suc n) v = record {
      some = omega arith;
      each = λ x l u. k.each x (omega (arith, l, here)) (omega (arith, u, there));
    } in
    let more = counted_more set from m (suc n) v piece.each in
    let areas = areas_more set from m n v o piece (c.in_front ∙ ap (is_open set) (sym here)) in
    record {
      after = omega (arith, c.after, k.some);
      bytes = omega (
        arith,
        b,
        c.bytes,
        more,
        ap (λ j. counted set from j) all,
        ap (λ j. cond {A = ℕ} v j 0) some,
      );
      areas = omega (arith, a, c.areas, areas, ap (λ j. counted (begins_area set) from j) all);
      in_front = open_past set at to v k;
    }

abbrev pub count_with : (bytes areas : ℕ) → Count
count_with bytes areas = record { bytes = bytes; areas = areas }

-- up to an end that was come to
pub counted_to : (set : ℕ → Bool) (from at to : ℕ) (count : Count) (o : Bool) → IsCounted set from at count o → to ≤ at
    → at - from ≤ to - from → count ≡ count_from set from to
counted_to set from at to count o c end within =
    let e : at - from ≡ to - from = omega (arith, end, within) in
    let bytes : count.bytes ≡ counted set from (to - from) = c.bytes ∙ ap (λ n. counted set from n) e in
    let areas : count.areas ≡ counted (begins_area set) from (to - from)
    = c.areas ∙ ap (λ n. counted (begins_area set) from n) e in
    ap (λ n. count_with n count.areas) bytes ∙ ap (λ n. count_with (counted set from (to - from)) n) areas

pub has_constant : (domain : ℕ → Bool) (statuses some : List Status) (u : Status) (at to : ℕ) (inside : Bool)
    → IsConstant domain at to inside → IsConstant (status_at statuses) at to u
    → IsConstant (has_one domain statuses some) at to (inside && list_any (λ s. same u s) some)
has_constant domain statuses some u at to inside d k = record {
  some = d.some;
  each = λ x l h. ap (λ b. b && list_any (λ s. same (status_at statuses x) s) some) (d.each x l h)
      ∙ ap (λ v. inside && list_any (λ s. same v s) some) (k.each x l h);
}

-- the position in front of another is looked at
pub open_at : (set : ℕ → Bool) (x to : ℕ) (v : Bool) → 0 < x → IsConstant set (x - 1) to v → v ≡ is_open set x
open_at set zero to v some k = absurd (omega (arith, some))
open_at set (suc x) to v some k = sym (k.each x (omega arith) (omega (arith, k.some)))

pub open_none : (set : ℕ → Bool) (x : ℕ) → x ≤ 0 → false ≡ is_open set x
open_none set zero le = refl
open_none set (suc x) le = absurd (omega (arith, le))

-- one status from a map's beginning on
pub one_counted : (domain : ℕ → Bool) (statuses : List Status) (s : Status) (end : ℕ)
    → count_from (has_one domain statuses (s ∷ [])) 0 end ≡ count_of (has_status domain statuses s) end
one_counted domain statuses s end =
    let set : has_one domain statuses (s ∷ []) ≡ has_status domain statuses s
    = fun_ext (λ x. ap (λ b. domain x && b) (or-false (same (status_at statuses x) s))) in
    let all : end - 0 ≡ end = omega arith in
    ap (λ (f : ℕ → Bool). count_from f 0 end) set
    ∙ ap (λ n. count_of (has_status domain statuses s) n) all
