-- The parts of a text between its commas, and the skip sizes that they give.
use Rattle.std.proofs.Common.{◌≡◌, ◌≢◌, ℕ, zero, suc, ◌+◌, ◌-◌, ◌*◌, ◌/◌, ◌^◌, ◌<◌, ◌≤◌, min, max, Bool, true, false, cond, nat_eq, nat_lt, nat_le, List, [], ◌∷◌, ◌++◌, length, get_or, Option, Some, None, IfSome, Bor, if◌then◌else◌, refl, ◌∙◌, ap, subst, arith, lit<}
use Rattle.std.specs.Option.{option_map, option_and_then}
use Rattle.std.proofs.lemmas.Bool.Decides.{nat_tests}
use Rattle.std.proofs.lemmas.Option.{cond_some}
use Rattle.std.proofs.lemmas.Str.Pattern.{IsSplitOnceResult, split_parts, contains_char}
use Rattle.std.specs.Str.Pattern.{FindsChar, HasMatch}
use Rattle.option_words.specs.Values.{is_empty_text, size_by}
use Rattle.ddrescue_words.specs.Options.{with_first, comma_parts, default_skip, default_skip_max, size_if_given, skips_given, skips_in_parts, skips_of, whole_sectors}
use Rattle.option_words.proofs.ValueLemmas.{then_part, size_by_below}

-- a text has no comma
abbrev LacksComma : List ℕ → Type 0
LacksComma text = (i : ℕ) → i < length text → get_or text i 0 ≢ 44

no_comma : (c : ℕ) (text : List ℕ) → LacksComma (c ∷ text) → nat_eq c 44 ≡ false
no_comma c text h = let first : c ≢ 44 = h 0 (omega arith) in grind (arith, nat_tests)

rest_lacks : (c : ℕ) (text : List ℕ) → LacksComma (c ∷ text) → LacksComma text
rest_lacks c text h = λ i p. h (suc i) (omega arith)

-- it is one part
one_part : (text : List ℕ) → LacksComma text → comma_parts text ≡ text ∷ []
one_part [] h = refl
one_part (c ∷ text) h = rw (no_comma c text h) (ap (with_first c) (one_part text (rest_lacks c text h)))

-- what stands in front of the first comma is the first part
first_part : (front rest : List ℕ) → LacksComma front → comma_parts (front ++ (44 ∷ rest)) ≡ front ∷ comma_parts rest
first_part [] rest h = refl
first_part (c ∷ front) rest h =
    rw (no_comma c front h) (ap (with_first c) (first_part front rest (rest_lacks c front h)))

abbrev HasOne : List (List ℕ) → Type 0
HasOne parts = (a : List ℕ) × (more : List (List ℕ)) × (parts ≡ a ∷ more)

abbrev HasTwo : List (List ℕ) → Type 0
HasTwo parts = (a : List ℕ) × (b : List ℕ) × (more : List (List ℕ)) × (parts ≡ a ∷ b ∷ more)

-- the parts with one character more in front, which is a comma or not
abbrev parts_with : Bool → ℕ → List (List ℕ) → List (List ℕ)
parts_with b c parts = cond b ([] ∷ parts) (with_first c parts)

one_with : (b : Bool) (c : ℕ) (parts : List (List ℕ)) → HasOne (parts_with b c parts)
one_with true c parts = ([], parts, refl)
one_with false c [] = (c ∷ [], [], refl)
one_with false c (a ∷ more) = (c ∷ a, more, refl)

some_part : (text : List ℕ) → HasOne (comma_parts text)
some_part [] = ([], [], refl)
some_part (c ∷ text) = one_with (nat_eq c 44) c (comma_parts text)

two_with_comma : (parts : List (List ℕ)) → HasOne parts → HasTwo ([] ∷ parts)
two_with_comma parts h = ([], h.0, h.1, ap (λ x. [] ∷ x) h.2)

two_with : (b : Bool) (c : ℕ) (parts : List (List ℕ)) → HasTwo parts → HasTwo (parts_with b c parts)
two_with true c parts h = ([], h.0, h.1 ∷ h.2, ap (λ x. [] ∷ x) h.3)
two_with false c parts h = (c ∷ h.0, h.1, h.2, ap (with_first c) h.3)

-- a text with a comma has two parts at least
two_parts : (text : List ℕ) (k : ℕ) → k < length text → get_or text k 0 ≡ 44 → HasTwo (comma_parts text)
two_parts [] k h e = absurd (omega arith)
two_parts (c ∷ text) zero h e =
    let comma : nat_eq c 44 ≡ true = grind (arith, nat_tests) in
    rw comma (two_with_comma (comma_parts text) (some_part text))
two_parts (c ∷ text) (suc k) h e = two_with (nat_eq c 44) c (comma_parts text) (two_parts text k (omega arith) e)

module _ (sector : ℕ) (text : List ℕ) where
  -- a text with no comma is the first size alone
  pub alone : FindsChar 44 text None → skips_in_parts sector (comma_parts text) ≡ skips_in_parts sector (text ∷ [] ∷ [])
  alone h = ap (skips_in_parts sector) (one_part text (split_parts 44 text None h (lit< tt)))

  split_in_two : (first most : Bor (List ℕ)) → IsSplitOnceResult 44 text (Some (first, most))
      → comma_parts text ≡ first.now ∷ comma_parts most.now
  split_in_two first most h =
      let p = split_parts 44 text (Some (first, most)) h (lit< tt) in
      ap comma_parts p.0 ∙ first_part first.now most.now p.1

  -- a text with one comma is both
  pub both : (first most : Bor (List ℕ)) → IsSplitOnceResult 44 text (Some (first, most)) → FindsChar 44 most.now None
      → skips_in_parts sector (comma_parts text) ≡ skips_in_parts sector (first.now ∷ most.now ∷ [])
  both first most h none =
      let lacks : LacksComma most.now = split_parts 44 most.now None none (lit< tt) in
      ap (skips_in_parts sector) (split_in_two first most h ∙ ap (λ x. first.now ∷ x) (one_part most.now lacks))

  -- one with more is bad
  pub too_many : (first most : Bor (List ℕ)) → IsSplitOnceResult 44 text (Some (first, most))
      → HasMatch (FindsChar 44) most.now → skips_in_parts sector (comma_parts text) ≡ None
  too_many first most h found =
      let at = (contains_char 44 most.now true found (lit< tt)).0 refl in
      let two = two_parts most.now at.0 at.1 at.2 in
      ap (skips_in_parts sector) (split_in_two first most h ∙ ap (λ x. first.now ∷ x) two.3)

-- the first skip isn't above the largest, and both are below 2^63
pub record AreOrdered (k : ℕ × ℕ) : Type 0 where
  pub order : k.0 ≤ k.1
  pub below : k.1 < 2 ^ 63

some_ordered : (k k' : ℕ × ℕ) → k.0 ≤ k.1 → k.1 < 2 ^ 63 → Some k ≡ Some k' → AreOrdered k'
some_ordered k k' o b e = let same : k ≡ k' = cc in subst AreOrdered same (record { order = o; below = b })

ordered_if : (b : Bool) (k k' : ℕ × ℕ) → (b ≡ true → k.0 ≤ k.1) → k.1 < 2 ^ 63 → cond b (Some k) None ≡ Some k'
    → AreOrdered k'
ordered_if true k k' o b e = some_ordered k k' (o refl) b e
ordered_if false k k' o b e = absurd (cc)

passed_le : (m n : ℕ) → nat_le m n ≡ true → m ≤ n
passed_le m n e = grind (arith, nat_tests)

passed_lt : (m n : ℕ) → nat_lt m n ≡ true → m < n
passed_lt m n e = grind (arith, nat_tests)

given_ordered : (first most : Option ℕ) (k : ℕ × ℕ) → IfSome first (λ n. n < 2 ^ 63) → IfSome most (λ n. n < 2 ^ 63)
    → skips_given first most ≡ Some k → AreOrdered k
given_ordered None None k f m e = some_ordered (default_skip, default_skip_max) k (omega arith) (omega arith) e
given_ordered (Some first) None k f m e =
    some_ordered (first, max first default_skip_max) k (omega (arith, f)) (omega (arith, f)) e
given_ordered None (Some most) k f m e = some_ordered (min most default_skip, most) k (omega (arith, m)) m e
given_ordered (Some first) (Some most) k f m e =
    ordered_if (nat_le first most) (first, most) k (passed_le first most) m e

given_below_by : (b : Bool) (r : Option ℕ) (n : Option ℕ) → ((k : ℕ) → r ≡ Some k → k < 2 ^ 63)
    → cond b (Some None) (option_map Some r) ≡ Some n → IfSome n (λ k. k < 2 ^ 63)
given_below_by true r None below e = tt
given_below_by true r (Some k) below e = absurd (cc)
given_below_by false r None below e = tt
given_below_by false (Some k) (Some k') below e = below k' (cc)
given_below_by false None (Some k) below e = absurd (cc)

size_given_below : (sector : ℕ) (text : List ℕ) (n : Option ℕ) → size_if_given sector text ≡ Some n
    → IfSome n (λ k. k < 2 ^ 63)
size_given_below sector text n e =
    given_below_by (is_empty_text text) (size_by sector (Some text)) n (size_by_below sector (Some text)) e

pub parts_ordered : (sector : ℕ) (parts : List (List ℕ)) (k : ℕ × ℕ) → skips_in_parts sector parts ≡ Some k
    → AreOrdered k
parts_ordered sector [] k e = absurd (cc)
parts_ordered sector (first ∷ []) k e =
    let f = then_part (λ f. skips_given f None) (size_if_given sector first) k e in
    given_ordered f.0 None k (size_given_below sector first f.0 f.1) tt f.2
parts_ordered sector (first ∷ most ∷ []) k e =
    let most_of = λ (f : Option ℕ). option_and_then (λ m. skips_given f m) (size_if_given sector most) in
    let f = then_part most_of (size_if_given sector first) k e in
    let m = then_part (λ m. skips_given f.0 m) (size_if_given sector most) k f.2 in
    given_ordered f.0 m.0 k (size_given_below sector first f.0 f.1) (size_given_below sector most m.0 m.1) m.2
parts_ordered sector (first ∷ most ∷ third ∷ more) k e = absurd (cc)

-- skip sizes that are accepted: in order, and the largest is below 2^63 in whole sectors
pub record AreSkips (sector first most : ℕ) : Type 0 where
  pub order : first ≤ most
  pub below : (most + (sector - 1)) / sector * sector < 2 ^ 63

-- skip sizes, if the largest isn't too large
abbrev if_small : (sector : ℕ) → ℕ × ℕ → Option (ℕ × ℕ)
if_small sector k = if nat_lt (whole_sectors sector k.1) (2 ^ 63) then Some k else None

some_skips : (sector : ℕ) (k k' : ℕ × ℕ) → AreOrdered k → if_small sector k ≡ Some k' → AreSkips sector k'.0 k'.1
some_skips sector k k' h e =
    let p = cond_some (nat_lt (whole_sectors sector k.1) (2 ^ 63)) k k' e in
    let are : AreSkips sector k.0 k.1 =
    record { order = h.order; below = passed_lt (whole_sectors sector k.1) (2 ^ 63) p.0 } in
    subst (λ (x : ℕ × ℕ). AreSkips sector x.0 x.1) p.1 are

skips_by : (sector : ℕ) (b : Bool) (parts : List (List ℕ)) (k : ℕ × ℕ)
    → cond b None (option_and_then (if_small sector) (skips_in_parts sector parts)) ≡ Some k → AreSkips sector k.0 k.1
skips_by sector true parts k e = absurd (cc)
skips_by sector false parts k e =
    let p = then_part (if_small sector) (skips_in_parts sector parts) k e in
    some_skips sector p.0 k (parts_ordered sector parts p.0 p.1) p.2

pub skips_of_are : (sector : ℕ) (text : List ℕ) (k : ℕ × ℕ) → skips_of sector text ≡ Some k → AreSkips sector k.0 k.1
skips_of_are sector text k e = skips_by sector (is_empty_text text) (comma_parts text) k e
