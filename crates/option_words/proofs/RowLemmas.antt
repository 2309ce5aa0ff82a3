-- Rows that each have a letter of their own are found by it.
use Rattle.std.proofs.Common.{◌≡◌, ℕ, zero, suc, Bool, true, false, cond, not, ◌&&◌, nat_eq, List, [], ◌∷◌, ◌++◌, slice_get, Option, Some, None, refl, sym, ◌∙◌, ap, subst, arith}
use Rattle.std.proofs.lemmas.Bool.Decides.{nat_tests}
use Rattle.std.proofs.lemmas.Option.{slice_get-map}
use Rattle.std.specs.Option.{option_map, option_and_then}
use Rattle.std.proofs.lemmas.Bool.{and_parts, not-true}
use Rattle.option_words.specs.Rows.{is_letter}
use Rattle.option_words.specs.Values.{OptionRow, letter_at, letter_meant, meanings_of, row_of}

-- a fact of each row
abbrev pub EachRow : {O : Type 0} → (OptionRow O → Type 0) → List (OptionRow O) → Type 0
EachRow P [] = Unit {0}
EachRow P (r ∷ rows) = P r × EachRow P rows

-- the fact of a row, and those of the rows after it
infixr 20 ◌and◌
pub ◌and◌ : {A B : Type 0} → A → B → A × B
a and b = (a, b)

-- holds of the row at each place
pub row_passes : {O : Type 0} (P : OptionRow O → Type 0) (rows : List (OptionRow O)) (k : ℕ) (r : OptionRow O)
    → EachRow P rows → slice_get rows k ≡ Some r → P r
row_passes P [] k r h e = absurd (cc)
row_passes P (x ∷ rows) zero r h e = let same : x ≡ r = cc in subst P same h.0
row_passes P (x ∷ rows) (suc k) r h e = row_passes P rows k r h.1 e

-- of a row that is tested and those after it
row_or_further : {O : Type 0} (P : OptionRow O → Type 0) (x r : OptionRow O) (rest : Option (OptionRow O)) (b : Bool)
    → P x → (rest ≡ Some r → P r) → cond b (Some x) rest ≡ Some r → P r
row_or_further P x r rest true h further e = let same : x ≡ r = cc in subst P same h
row_or_further P x r rest false h further e = further e

-- holds of the row that has a letter
pub lettered_passes : {O : Type 0} (P : OptionRow O → Type 0) (rows : List (OptionRow O)) (letter : ℕ) (r : OptionRow O)
    → EachRow P rows → row_of letter rows ≡ Some r → P r
lettered_passes P [] letter r h e = absurd (cc)
lettered_passes P (x ∷ rows) letter r h e =
    row_or_further P x r (row_of letter rows) (is_letter letter x.letter) h.0
    (λ found. lettered_passes P rows letter r h.1 found) e

-- a last row that has no letter is found by none
pub without_last : {O : Type 0} (rows : List (OptionRow O)) (x : OptionRow O) (letter : ℕ) → x.letter ≡ None
    → row_of letter (rows ++ x ∷ []) ≡ row_of letter rows
without_last [] x letter e = rw e refl
without_last (y ∷ rows) x letter e =
    ap (λ rest. cond (is_letter letter y.letter) (Some y) rest) (without_last rows x letter e)

-- no row has this letter
abbrev lack_letter : {O : Type 0} → Option ℕ → List (OptionRow O) → Bool
lack_letter None rows = false
lack_letter (Some c) [] = true
lack_letter (Some c) (r ∷ rows) = not (is_letter c r.letter) && lack_letter (Some c) rows

-- each row has a letter, which no other has
abbrev pub have_own_letters : {O : Type 0} → List (OptionRow O) → Bool
have_own_letters [] = true
have_own_letters (r ∷ rows) = lack_letter r.letter rows && have_own_letters rows

pub equal_letter : (c : ℕ) → nat_eq c c ≡ true
equal_letter c = grind (arith, nat_tests)

same_letter : (c d : ℕ) → nat_eq d c ≡ true → d ≡ c
same_letter c d e = grind (arith, nat_tests)

-- a letter that no row has is found nowhere
none_found : {O : Type 0} (c : ℕ) (rows : List (OptionRow O)) (k : ℕ) → lack_letter (Some c) rows ≡ true
    → letter_at rows k ≡ Some c → ⊥
none_found c [] k h e = absurd (cc)
none_found c (r ∷ rows) zero h e =
    let p = and_parts (not (is_letter c r.letter)) (lack_letter (Some c) rows) h in
    let off = not-true (is_letter c r.letter) p.0 in
    let on : is_letter c r.letter ≡ true = ap (is_letter c) e ∙ equal_letter c in
    absurd (cc)
none_found c (r ∷ rows) (suc k) h e =
    let p = and_parts (not (is_letter c r.letter)) (lack_letter (Some c) rows) h in
    none_found c rows k p.1 e

-- another row's letter is another
other_letter : {O : Type 0} (l : Option ℕ) (c : ℕ) (rows : List (OptionRow O)) (k : ℕ) → lack_letter l rows ≡ true
    → letter_at rows k ≡ Some c → is_letter c l ≡ false
other_letter None c rows k h e = absurd (cc)
other_letter (Some d) c rows k h e = by_test (nat_eq d c) refl where
  by_test : (b : Bool) → nat_eq d c ≡ b → b ≡ false
  by_test false is = refl
  by_test true is =
      absurd (none_found d rows k h (e ∙ ap (λ x. Some x) (sym (same_letter c d is))))

found_by : {O : Type 0} (r : OptionRow O) (rows : List (OptionRow O)) (l : Option ℕ) → r.letter ≡ l
    → lack_letter l rows ≡ true → Some r ≡ option_and_then (λ c. row_of c (r ∷ rows)) l
found_by r rows None is h = absurd (cc)
found_by r rows (Some c) is h = rw (is, equal_letter c) refl

further : {O : Type 0} (r : OptionRow O) (rows : List (OptionRow O)) (k : ℕ) (l : Option ℕ)
    → lack_letter r.letter rows ≡ true → letter_at rows k ≡ l → option_and_then (λ c. row_of c rows) l ≡ option_and_then (λ c. row_of c (r ∷ rows)) l
further r rows k None h e = refl
further r rows k (Some c) h e = rw (other_letter r.letter c rows k h e) refl

-- the row at a place is the one that has its letter
pub row_by_letter : {O : Type 0} (rows : List (OptionRow O)) (k : ℕ) → have_own_letters rows ≡ true
    → slice_get rows k ≡ option_and_then (λ c. row_of c rows) (letter_at rows k)
row_by_letter [] k h = refl
row_by_letter (r ∷ rows) zero h =
    let p = and_parts (lack_letter r.letter rows) (have_own_letters rows) h in
    found_by r rows r.letter refl p.0
row_by_letter (r ∷ rows) (suc k) h =
    let p = and_parts (lack_letter r.letter rows) (have_own_letters rows) h in
    row_by_letter rows k p.1 ∙ further r rows k (letter_at rows k) p.0 refl

letter_in : {O : Type 0} (r : Option (OptionRow O))
    → letter_meant (option_map (λ r. (r.letter, r.name, r.takes)) r) ≡ option_and_then (λ r. r.letter) r
letter_in None = refl
letter_in (Some r) = refl

-- an option has the letter of its row
pub letter_given : {O : Type 0} (rows : List (OptionRow O)) (k : ℕ)
    → letter_meant (slice_get (meanings_of rows) k) ≡ letter_at rows k
letter_given rows k =
    ap letter_meant (slice_get-map (λ r. (r.letter, r.name, r.takes)) rows k) ∙ letter_in (slice_get rows k)
