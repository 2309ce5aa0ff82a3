-- How many positions ascending intervals cover.
use Rattle.std.proofs.Common.{◌≡◌, ℕ, zero, suc, ◌+◌, ◌-◌, ◌<◌, ◌≤◌, ◌^◌, Bool, true, false, cond, List, [], ◌∷◌, Some, length, take, get_or, ap, sym, ◌∙◌, refl, arith, ⊎_elim}
use Rattle.std.specs.List.{slice_get, sum_by, count_by, range_with_len}
use Rattle.std.proofs.lemmas.Bool.{cases_lt}
use Rattle.std.proofs.lemmas.Bool.Decides.{nat_tests}
use Rattle.std.proofs.lemmas.List.Sums.{sum_by-cons}
use Rattle.std.proofs.lemmas.Option.{slice_get_within, get_or_from_slice_get}
use Rattle.block_list.specs.declared.block.Range.{Range}
use Rattle.rescue_domain.specs.Domain.{IsSize}
use Rattle.rescue_domain.specs.Parts.{covers, AreParts}
use Rattle.rescue_domain.proofs.PartsLemmas.{parts_from_lower, part_at, part_covers, part_with, clear_below}

-- how many positions an interval has
abbrev pub width : Range → ℕ
width part = part.to - part.from

-- the intervals in front of one have no more positions than lie in front of it
pub sum_before : (low : ℕ) (parts : List Range) (i : ℕ) (part : Range) → AreParts low parts → slice_get parts i ≡ Some part
    → low + sum_by width (take i parts) ≤ part.from
sum_before low [] i part t e = cc
sum_before low (first ∷ parts) zero part t e = omega (arith, (part_at low (first ∷ parts) 0 part t e).begins)
sum_before low (first ∷ parts) (suc i) part t e =
    omega (arith, sum_before (first.to + 1) parts i part t.2 e, sum_by-cons width first (take i parts), t.0, t.1)

-- how many of n positions from one on are in a set
abbrev counted : (ℕ → Bool) → ℕ → ℕ → ℕ
counted domain from n = count_by domain (range_with_len from n)

abbrev pub one_if : Bool → ℕ
one_if b = cond b 1 0

counted_more : (domain : ℕ → Bool) (from n : ℕ)
    → counted domain from (suc n) ≡ one_if (domain from) + counted domain (from + 1) n
counted_more domain from n = sum_by-cons (λ x. one_if (domain x)) from (range_with_len (from + 1) n)

-- m positions that aren't in it, then n
counted_none : (domain : ℕ → Bool) (from m n : ℕ) → ((x : ℕ) → from ≤ x → x < from + m → domain x ≡ false)
    → counted domain from (m + n) ≡ counted domain (from + m) n
counted_none domain from zero n h =
    let e : 0 + n ≡ n = omega arith in
    let z : from + 0 ≡ from = omega arith in
    ap (λ k. counted domain from k) e ∙ ap (λ k. counted domain k n) (sym z)
counted_none domain from (suc m) n h =
    let e : suc m + n ≡ suc (m + n) = omega arith in
    let z : from + 1 + m ≡ from + suc m = omega arith in
    let here = ap one_if (h from (omega arith) (omega arith)) in
    let k = counted_none domain (from + 1) m n (λ x l u. h x (omega arith) (omega arith)) in
    omega (
      arith,
      counted_more domain from (m + n),
      here,
      k,
      ap (λ k. counted domain from k) e,
      ap (λ k. counted domain k n) z,
    )

-- m positions that are in it, then n
counted_all : (domain : ℕ → Bool) (from m n : ℕ) → ((x : ℕ) → from ≤ x → x < from + m → domain x ≡ true)
    → counted domain from (m + n) ≡ m + counted domain (from + m) n
counted_all domain from zero n h =
    let e : 0 + n ≡ n = omega arith in
    let z : from + 0 ≡ from = omega arith in
    omega (arith, ap (λ k. counted domain from k) e, ap (λ k. counted domain k n) z)
counted_all domain from (suc m) n h =
    let e : suc m + n ≡ suc (m + n) = omega arith in
    let z : from + 1 + m ≡ from + suc m = omega arith in
    let here = ap one_if (h from (omega arith) (omega arith)) in
    let k = counted_all domain (from + 1) m n (λ x l u. h x (omega arith) (omega arith)) in
    omega (
      arith,
      counted_more domain from (m + n),
      here,
      k,
      ap (λ k. counted domain from k) e,
      ap (λ k. counted domain k n) z,
    )

counted_same : (domain other : ℕ → Bool) (from n : ℕ) → ((x : ℕ) → from ≤ x → domain x ≡ other x)
    → counted domain from n ≡ counted other from n
counted_same domain other from zero h = refl
counted_same domain other from (suc n) h =
    let here = ap one_if (h from (omega arith)) in
    let k = counted_same domain other (from + 1) n (λ x l. h x (omega arith)) in
    omega (arith, counted_more domain from n, counted_more other from n, here, k)

counted_parts : (low n : ℕ) (parts : List Range) → AreParts low parts → ((x : ℕ) → covers parts x ≡ true → x < low + n)
    → counted (covers parts) low n ≡ sum_by width parts
counted_parts low n [] t h =
    let e : n ≡ n + 0 = omega arith in
    omega (arith, ap (λ k. counted (covers []) low k) e, counted_none (covers []) low n 0 (λ x l u. refl))
counted_parts low n (part ∷ parts) t h =
    let all : ℕ → Bool = covers (part ∷ parts) in
    let last = part_covers (part ∷ parts) 0 (part.to - 1) part refl (omega (arith, t.1)) (omega (arith, t.1)) in
    let within : part.to ≤ low + n = omega (arith, h (part.to - 1) last, t.1) in
    let gap : ℕ = part.from - low in
    let rest : ℕ = low + n - part.to in
    let e : n ≡ gap + (width part + rest) = omega (arith, t.0, t.1) in
    let z : low + gap ≡ part.from = omega (arith, t.0) in
    let y : part.from + width part ≡ part.to = omega (arith, t.1) in
    let later = parts_from_lower part.to (part.to + 1) parts (omega arith) t.2 in
    let front = counted_none all low gap (width part + rest)
    (λ x l u. clear_below part.from (part ∷ parts) x (omega arith, t.1, t.2) (omega arith)) in
    let here = counted_all all part.from (width part) rest
    (λ x l u. part_covers (part ∷ parts) 0 x part refl l (omega arith)) in
    let past = counted_same all (covers parts) part.to rest (λ x l. grind (arith, nat_tests)) in
    let k = counted_parts part.to rest parts later (λ x c. omega (arith, h x (grind (arith, nat_tests, c)))) in
    omega (
      arith,
      front,
      here,
      past,
      k,
      sum_by-cons width part parts,
      ap (λ k. counted all low k) e,
      ap (λ k. counted all k (width part + rest)) z,
      ap (λ k. counted all k rest) y,
    )

pub parts_size : (parts : List Range) → AreParts 0 parts → IsSize (covers parts) (sum_by width parts)
parts_size parts t = record { counts = λ end h. sym (counted_parts 0 end parts t (λ x c. omega (arith, h x c))) }

-- the first n intervals end below 2^64
pub record AreShort (parts : List Range) (n : ℕ) : Type 0 where
  pub short : (i : ℕ) (part : Range) → i < n → slice_get parts i ≡ Some part → part.to < 2 ^ 64

pub short_more : (parts : List Range) (n : ℕ) (d : Range) → AreShort parts n → (get_or parts n d).to < 2 ^ 64
    → AreShort parts (n + 1)
short_more parts n d s h = record {
  short = λ i part u e. ⊎_elim
      (λ (v : i < n). s.short i part v e)
      (λ (v : n ≤ i).
      let z : n ≡ i = omega arith in
      let read = ap (λ (r : Range). r.to) (get_or_from_slice_get parts i part d e) in
      omega (arith, ap (λ k. (get_or parts k d).to) z, read))
      (cases_lt i n);
}

pub covered_short : (parts : List Range) (n x : ℕ) → AreShort parts n → length parts ≤ n → covers parts x ≡ true → x < 2 ^ 64
covered_short parts n x s l c =
    let k = part_with parts x c in
    let u : k.index < n = omega (arith, slice_get_within parts k.index k.part k.there) in
    omega (arith, s.short k.index k.part u k.there, k.ends)
