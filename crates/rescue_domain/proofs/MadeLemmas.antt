-- How intervals are made: one after the others, and cut to a range.
use Rattle.std.proofs.Common.{◌≡◌, ℕ, ◌+◌, ◌<◌, ◌≤◌, Bool, true, false, cond, ◌&&◌, ◌||◌, nat_lt, nat_le, List, [], ◌∷◌, ◌++◌, min, max, refl, arith, subst, ⊎_elim}
use Rattle.std.specs.List.Retain.{RetainsInTurn}
use Rattle.std.proofs.lemmas.Bool.{cases_lt, false_from_ne_true}
use Rattle.std.proofs.lemmas.Bool.Decides.{nat_tests}
use Rattle.block_list.specs.declared.block.Range.{Range}
use Rattle.block_list.specs.Places.{IsFirst, IsRangeUp}
use Rattle.rescue_domain.specs.Domain.{IsIn, listed_in}
use Rattle.rescue_domain.specs.Parts.{covers, AreParts}
use Rattle.rescue_domain.proofs.PartsLemmas.{parts_from_lower}

-- x lies in an interval
abbrev pub is_inside : Range → ℕ → Bool
is_inside part x = nat_le part.from x && nat_lt x part.to

pub covers_push : (parts : List Range) (range : Range) (x : ℕ) → covers (parts ++ range ∷ []) x ≡ (covers parts x || is_inside range x)
covers_push [] range x = grind (arith, nat_tests)
covers_push (part ∷ parts) range x = let k = covers_push parts range x in grind (arith, nat_tests, k)

-- each interval ends below a position
abbrev pub EndBelow : ℕ → List Range → Type 0
EndBelow at [] = Unit {0}
EndBelow at (part ∷ parts) = (part.to < at) × EndBelow at parts

pub parts_push : (low : ℕ) (parts : List Range) (range : Range) → AreParts low parts → EndBelow range.from parts → low ≤ range.from
    → range.from < range.to → AreParts low (parts ++ range ∷ [])
parts_push low [] range t b l s = (l, s, tt)
parts_push low (part ∷ parts) range t b l s =
    (t.0, t.1, parts_push (part.to + 1) parts range t.2 b.1 (omega (arith, b.0)) s)

end_below_more : (at more : ℕ) (parts : List Range) → EndBelow at parts → at ≤ more → EndBelow more parts
end_below_more at more [] b l = tt
end_below_more at more (part ∷ parts) b l = (omega (arith, b.0), end_below_more at more parts b.1 l)

end_below_push : (at : ℕ) (parts : List Range) (range : Range) → EndBelow at parts → range.to < at → EndBelow at (parts ++ range ∷ [])
end_below_push at [] range b l = (l, tt)
end_below_push at (part ∷ parts) range b l = (b.0, end_below_push at parts range b.1 l)

-- the intervals have what a set has before a position; if the set goes on there or past it, a gap lies between
pub record IsMade (domain : ℕ → Bool) (parts : List Range) (at : ℕ) : Type 0 where
  pub apart : AreParts 0 parts
  pub gap : (range : Range) → at ≤ range.from → IsIn domain range.from → EndBelow range.from parts
  pub same : (x : ℕ) → covers parts x ≡ (nat_lt x at && domain x)

same_more : (domain : ℕ → Bool) (parts : List Range) (at : ℕ) (range : Range) → IsMade domain parts at
    → IsFirst (IsIn domain) at range.from → IsRangeUp (IsIn domain) range.from range.to
    → (x : ℕ) → covers (parts ++ range ∷ []) x ≡ (nat_lt x range.to && domain x)
same_more domain parts at range m f u x =
    let pushed = covers_push parts range x in
    let same = m.same x in
    let after = f.after in
    let begun = u.begun in
    ⊎_elim
    (λ (v : x < range.from). ⊎_elim
    (λ (w : x < at). grind (arith, nat_tests, pushed, same))
    (λ (w : at ≤ x).
    let none : domain x ≡ false = false_from_ne_true (domain x) (λ h. omega (arith, f.least x w h)) in
    grind (arith, nat_tests, pushed, same, none))
    (cases_lt x at))
    (λ (v : range.from ≤ x). ⊎_elim
    (λ (w : x < range.to).
    let here : domain x ≡ true = u.within x v w in
    grind (arith, nat_tests, pushed, same, here))
    (λ (w : range.to ≤ x). grind (arith, nat_tests, pushed, same))
    (cases_lt x range.to))
    (cases_lt x range.from)

pub made_more : (domain : ℕ → Bool) (parts : List Range) (at : ℕ) (range : Range) → IsMade domain parts at
    → IsFirst (IsIn domain) at range.from → IsRangeUp (IsIn domain) range.from range.to
    → IsMade domain (parts ++ range ∷ []) range.to
made_more domain parts at range m f u =
    let below = m.gap range f.after f.holds in
    record {
      apart = parts_push 0 parts range m.apart below (omega arith) u.begun;
      gap = λ next l i.
          let ne : next.from ≡ range.to → ⊥ = λ e. u.stops (rw e at i) in
          let lt : range.to < next.from = omega (arith, ne) in
          end_below_push next.from parts range (end_below_more range.from next.from parts below (omega (arith, u.begun))) lt;
      same = same_more domain parts at range m f u;
    }

-- an interval cut to the positions from first on and below end
abbrev pub cut : (first end : ℕ) → Range → Range
cut first end part = record { from = max part.from first; to = min part.to end }

-- what each call of a closure does that cuts an interval, and keeps it where some of it is left
abbrev pub Cuts : {F : Type 0} → (F → Range → Bool → F → Range → Type 0) → F → (first end : ℕ) → Type 0
Cuts {F} R f first end = (part : Range) (b : Bool) (g : F) (new : Range) → R f part b g new
    → (g ≡ f) × (new ≡ cut first end part) × (b ≡ nat_lt new.from new.to)

-- the intervals ascend, and have the positions of others that are in a range
pub record AreListed (low : ℕ) (parts : List Range) (first end : ℕ) (left : List Range) : Type 0 where
  pub apart : AreParts low left
  pub same : (x : ℕ) → covers left x ≡ listed_in (covers parts) first end x

listed_one : (low first end : ℕ) (part : Range) (parts : List Range) (b : Bool) (left : List Range) → AreParts low (part ∷ parts)
    → b ≡ nat_lt (cut first end part).from (cut first end part).to → AreListed (part.to + 1) parts first end left
    → AreListed low (part ∷ parts) first end (cond b (cut first end part ∷ left) left)
listed_one low first end part parts true left t e l = record {
  apart = (omega (arith, t.0), grind (arith, nat_tests, e), parts_from_lower (min part.to end + 1) (part.to + 1) left (omega arith) l.apart);
  same = λ x. let same = l.same x in grind (arith, nat_tests, e, same);
}
listed_one low first end part parts false left t e l = record {
  apart = parts_from_lower low (part.to + 1) left (omega (arith, t.0, t.1)) l.apart;
  same = λ x. let same = l.same x in grind (arith, nat_tests, e, same);
}

pub listed_parts : {F : Type 0} (R : F → Range → Bool → F → Range → Type 0) (f : F) (first end : ℕ) → Cuts R f first end
    → (low : ℕ) (parts left : List Range) → AreParts low parts → RetainsInTurn R f parts left
    → AreListed low parts first end left
listed_parts R f first end h low [] left t r = rw r (record { apart = tt; same = λ x. refl })
listed_parts {F} R f first end h low (part ∷ parts) left t r =
    let said = h part r.0 r.1 r.2 r.3 in
    let later : RetainsInTurn R f parts r.4 = subst (λ g. RetainsInTurn R g parts r.4) said.0 r.5 in
    let rest = listed_parts R f first end h (part.to + 1) parts r.4 t.2 later in
    let e : r.0 ≡ nat_lt (cut first end part).from (cut first end part).to = rw said.1 at said.2 in
    rw (r.6, said.1) (listed_one low first end part parts r.0 r.4 t e rest)
