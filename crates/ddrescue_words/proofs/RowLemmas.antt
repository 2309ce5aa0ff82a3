-- The rows that have a letter, and the one after them that has none.
use Rattle.std.proofs.Common.{◌≡◌, ◌≢◌, ℕ, zero, suc, List, [], ◌∷◌, ◌++◌, length, slice_get, Option, Some, None, refl, sym, ◌∙◌, ap}
use Rattle.std.specs.Option.{option_and_then}
use Rattle.option_words.specs.Values.{letter_at, letter_meant, meanings_of, row_of}
use Rattle.option_words.proofs.RowLemmas.{letter_given, row_by_letter}
use Rattle.ddrescue_words.specs.Options.{lettered_rows, option_rows, sample_place, sample_row}

-- what stands at a place of a list, if it isn't the last
before_last : {A : Type 0} (xs : List A) (y : A) (k : ℕ) → k ≢ length xs → slice_get (xs ++ y ∷ []) k ≡ slice_get xs k
before_last [] y zero other = absurd (other refl)
before_last [] y (suc k) other = refl
before_last (x ∷ xs) y zero other = refl
before_last (x ∷ xs) y (suc k) other = before_last xs y k (λ is. other (ap suc is))

pub row_of_sample : (k : ℕ) → k ≡ sample_place → slice_get option_rows k ≡ Some sample_row
row_of_sample k is = rw is refl

in_front : (k : ℕ) → k ≢ sample_place → slice_get option_rows k ≡ slice_get lettered_rows k
in_front k other = before_last lettered_rows sample_row k other

-- the letter at a place in front of it
front_letter : (k : ℕ) (l : Option ℕ) → k ≢ sample_place → letter_meant (slice_get (meanings_of option_rows) k) ≡ l
    → letter_at lettered_rows k ≡ l
front_letter k l other is =
    ap (option_and_then (λ r. r.letter)) (sym (in_front k other)) ∙ sym (letter_given option_rows k) ∙ is

-- the row there is the one that has its letter
pub row_lettered : (k letter : ℕ) → k ≢ sample_place → letter_meant (slice_get (meanings_of option_rows) k) ≡ Some letter
    → slice_get option_rows k ≡ row_of letter lettered_rows
row_lettered k letter other is =
    in_front k other ∙ row_by_letter lettered_rows k refl
    ∙ ap (option_and_then (λ l. row_of l lettered_rows)) (front_letter k (Some letter) other is)

pub place_unlettered : (k : ℕ) → k ≢ sample_place → letter_meant (slice_get (meanings_of option_rows) k) ≡ None
    → slice_get option_rows k ≡ None
place_unlettered k other is =
    in_front k other ∙ row_by_letter lettered_rows k refl
    ∙ ap (option_and_then (λ l. row_of l lettered_rows)) (front_letter k None other is)
