-- What ascending intervals say of each of them, and of the positions that they cover.
use Rattle.std.proofs.Common.{◌≡◌, ℕ, zero, suc, ◌+◌, ◌<◌, ◌≤◌, Bool, true, false, ◌&&◌, nat_lt, nat_le, List, [], ◌∷◌, Some, get_or, ap, sym, ◌∙◌, refl, arith, ⊎_elim}
use Rattle.std.specs.List.{slice_get}
use Rattle.std.specs.List.Sorted.{IsNonDecreasingBy, IsPartitionPoint}
use Rattle.std.proofs.lemmas.Bool.{cases_lt, false_from_ne_true}
use Rattle.std.proofs.lemmas.Bool.Decides.{nat_tests}
use Rattle.std.proofs.lemmas.Option.{slice_get-get_or, slice_get_within, get_or_from_slice_get}
use Rattle.block_list.specs.declared.block.Range.{Range}
use Rattle.rescue_domain.specs.Parts.{covers, AreParts}

-- what a read past the end gives
abbrev pub no_part : Range
no_part = record { from = 0; to = 0 }

pub parts_from_lower : (low to : ℕ) (parts : List Range) → low ≤ to → AreParts to parts → AreParts low parts
parts_from_lower low to [] h t = tt
parts_from_lower low to (part ∷ parts) h t = (omega (arith, t.0), t.1, t.2)

-- an interval has a position, and none below the place from which they ascend
pub record IsAmong (low : ℕ) (part : Range) : Type 0 where
  pub begins : low ≤ part.from
  pub some : part.from < part.to

pub part_at : (low : ℕ) (parts : List Range) (i : ℕ) (part : Range) → AreParts low parts → slice_get parts i ≡ Some part
    → IsAmong low part
part_at low [] i part t e = cc
part_at low (first ∷ parts) zero part t e =
    let same : first ≡ part = cc in rw (← same) (record { begins = t.0; some = t.1 })
part_at low (first ∷ parts) (suc i) part t e =
    let k = part_at (first.to + 1) parts i part t.2 e in
    record { begins = omega (arith, t.0, t.1, k.begins); some = k.some }

-- between two intervals lies a gap
pub gap_between : (low : ℕ) (parts : List Range) (i j : ℕ) (p q : Range) → AreParts low parts → i < j
    → slice_get parts i ≡ Some p → slice_get parts j ≡ Some q → p.to < q.from
gap_between low [] i j p q t h e f = cc
gap_between low (first ∷ parts) i zero p q t h e f = absurd (omega arith)
gap_between low (first ∷ parts) zero (suc j) p q t h e f =
    let same : first ≡ p = cc in
    rw (← same) (omega (arith, (part_at (first.to + 1) parts j q t.2 f).begins))
gap_between low (first ∷ parts) (suc i) (suc j) p q t h e f =
    gap_between (first.to + 1) parts i j p q t.2 (omega arith) e f

pub part_covers : (parts : List Range) (i x : ℕ) (part : Range) → slice_get parts i ≡ Some part → part.from ≤ x → x < part.to
    → covers parts x ≡ true
part_covers [] i x part e l u = cc
part_covers (first ∷ parts) zero x part e l u = let same : first ≡ part = cc in grind (arith, nat_tests)
part_covers (first ∷ parts) (suc i) x part e l u =
    let k = part_covers parts i x part e l u in grind (arith, nat_tests, k)

-- an interval that has a position
pub record Holder (parts : List Range) (x : ℕ) : Type 0 where
  pub index : ℕ
  pub part : Range
  pub there : slice_get parts index ≡ Some part
  pub begun : part.from ≤ x
  pub ends : x < part.to

pub part_with : (parts : List Range) (x : ℕ) → covers parts x ≡ true → Holder parts x
part_with [] x h = cc
part_with (part ∷ parts) x h =
    let here : Bool = nat_le part.from x && nat_lt x part.to in
    let k : (b : Bool) → here ≡ b → Holder (part ∷ parts) x = λ b. elim b as (λ b. here ≡ b → Holder (part ∷ parts) x) [
      | true ↦ λ e. record {
        index = 0;
        part = part;
        there = refl;
        begun = grind (arith, nat_tests, e);
        ends = grind (arith, nat_tests, e);
      }
      | false ↦ λ e.
          let k = part_with parts x (grind (arith, nat_tests, e, h)) in
          record { index = suc k.index; part = k.part; there = k.there; begun = k.begun; ends = k.ends }
    ] in
    k here refl

pub clear_below : (low : ℕ) (parts : List Range) (x : ℕ) → AreParts low parts → x < low → covers parts x ≡ false
clear_below low parts x t l =
    false_from_ne_true (covers parts x) (λ c.
    let k = part_with parts x c in
    omega (arith, (part_at low parts k.index k.part t k.there).begins, k.begun))

-- by their ends and by their starts they ascend
pub ends_ascend : (parts : List Range) → AreParts 0 parts → IsNonDecreasingBy (λ (part : Range). part.to) parts
ends_ascend parts t i j d h l = ⊎_elim
    (λ (u : i < j).
    let p = slice_get-get_or parts i d (omega arith) in
    let q = slice_get-get_or parts j d l in
    omega (arith, gap_between 0 parts i j _ _ t u p q, (part_at 0 parts j _ t q).some))
    (λ (u : j ≤ i). let e : i ≡ j = omega arith in omega (arith, ap (λ k. (get_or parts k d).to) e))
    (cases_lt i j)

pub starts_ascend : (parts : List Range) → AreParts 0 parts → IsNonDecreasingBy (λ (part : Range). part.from) parts
starts_ascend parts t i j d h l = ⊎_elim
    (λ (u : i < j).
    let p = slice_get-get_or parts i d (omega arith) in
    let q = slice_get-get_or parts j d l in
    omega (arith, gap_between 0 parts i j _ _ t u p q, (part_at 0 parts i _ t p).some))
    (λ (u : j ≤ i). let e : i ≡ j = omega arith in omega (arith, ap (λ k. (get_or parts k d).from) e))
    (cases_lt i j)

-- what a search by halves says of an interval that was read
module _ (p : Range → Bool) (parts : List Range) (n : ℕ) (h : IsPartitionPoint (λ y. p y ≡ true) (λ y. p y ≡ false) parts n) where
  pub passes_before : (i : ℕ) (part : Range) → i < n → slice_get parts i ≡ Some part → p part ≡ true
  passes_before i part l e = ap p (sym (get_or_from_slice_get parts i part part e)) ∙ h.0 i part (omega arith) l

  pub fails_from : (i : ℕ) (part : Range) → n ≤ i → slice_get parts i ≡ Some part → p part ≡ false
  fails_from i part l e =
      ap p (sym (get_or_from_slice_get parts i part part e)) ∙ h.1 i part l (slice_get_within parts i part e)
