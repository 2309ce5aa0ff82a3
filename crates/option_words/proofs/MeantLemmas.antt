-- What words mean depends on the letters and names of the rows and on whether they take a value, and on nothing else.
use Rattle.std.proofs.Common.{◌≡◌, inl, inr, ℕ, ◌+◌, Bool, cond, List, [], ◌∷◌, map, drop, nat_eq, count_by, Option, Some, None, refl, sym, ◌∙◌, ap}
use Rattle.std.specs.Char.{len_utf8}
use Rattle.std.specs.Str.{bytes_eq, chars}
use Rattle.std.specs.List.{starts_with, fold}
use Rattle.option_words.specs.declared.row.Row.{Row}
use Rattle.option_words.specs.declared.row.Takes.{Takes}
use Rattle.option_words.specs.declared.choice.Chosen.{Chosen}
use Rattle.option_words.specs.declared.form.Form.{Form}
use Rattle.option_words.specs.declared.form.Form.TheVariants.{Plain, Stop, Name, Letters}
use Rattle.option_words.specs.declared.reading.Item.{Item}
use Rattle.option_words.specs.declared.reader.NextWord.{NextWord}
use Rattle.option_words.specs.declared.reader.NextWord.TheVariants.{Anything, Value, Operand}
use Rattle.option_words.specs.declared.fault.WordFault.{WordFault}
use Rattle.option_words.specs.Forms.{form_of}
use Rattle.option_words.specs.Rows.{meaning_of_row, is_letter, has_letter, has_name, begins_with, first_row, chosen_of, chosen_by_name}
use Rattle.option_words.specs.Meanings.{letter_meaning, letters_meaning, equals_sign, name_before, value_after, choice_meaning, name_meaning, form_meaning, meaning}
use Rattle.option_words.specs.Reading.{Bring, HasFault}
use Rattle.option_words.specs.Laws.{ReadingDependsOnMeanings, FaultDependsOnMeanings}

abbrev Meant : Type 0
Meant = Option ℕ × List ℕ × Takes

-- the first of some meanings that passes a test
first_meant : (Meant → Bool) → ℕ → List Meant → Option Chosen
first_meant passes k [] = None
first_meant passes k (m ∷ ms) = cond (passes m) (Some (record { row = k; takes = m.2 })) (first_meant passes (k + 1) ms)

first_by_meaning : (passes : Meant → Bool) (k : ℕ) (rows : List Row)
    → first_row (λ r. passes (meaning_of_row r)) k rows ≡ first_meant passes k (map meaning_of_row rows)
unfolding first_meant
first_by_meaning passes k [] = refl
first_by_meaning passes k (r ∷ rs) = ap (cond (passes (meaning_of_row r)) (Some (record { row = k; takes = r.takes }))) (first_by_meaning passes (k + 1) rs)

first_same : (passes : Meant → Bool) (rows rows' : List Row) → map meaning_of_row rows ≡ map meaning_of_row rows'
    → first_row (λ r. passes (meaning_of_row r)) 0 rows ≡ first_row (λ r. passes (meaning_of_row r)) 0 rows'
first_same passes rows rows' e = first_by_meaning passes 0 rows ∙ ap (first_meant passes 0) e ∙ sym (first_by_meaning passes 0 rows')

count_from : (passes : Meant → Bool) (n : ℕ) (rows : List Row)
    → fold (λ a r. a + cond (passes (meaning_of_row r)) 1 0) n rows ≡ fold (λ a m. a + cond (passes m) 1 0) n (map meaning_of_row rows)
count_from passes n [] = refl
count_from passes n (r ∷ rs) = count_from passes (n + cond (passes (meaning_of_row r)) 1 0) rs

count_by_meaning : (passes : Meant → Bool) (rows : List Row)
    → count_by (λ r. passes (meaning_of_row r)) rows ≡ count_by passes (map meaning_of_row rows)
count_by_meaning passes rows = count_from passes 0 rows

count_same : (passes : Meant → Bool) (rows rows' : List Row) → map meaning_of_row rows ≡ map meaning_of_row rows'
    → count_by (λ r. passes (meaning_of_row r)) rows ≡ count_by (λ r. passes (meaning_of_row r)) rows'
count_same passes rows rows' e = count_by_meaning passes rows ∙ ap (count_by passes) e ∙ sym (count_by_meaning passes rows')

letter_same : (rows rows' : List Row) → map meaning_of_row rows ≡ map meaning_of_row rows' → (c : ℕ)
    → first_row (has_letter c) 0 rows ≡ first_row (has_letter c) 0 rows'
letter_same rows rows' e c = first_same (λ m. is_letter c m.0) rows rows' e

letters_same : (rows rows' : List Row) → map meaning_of_row rows ≡ map meaning_of_row rows' → (n at : ℕ) (cs : List ℕ)
    → letters_meaning rows n at cs ≡ letters_meaning rows' n at cs
letters_same rows rows' e n at [] = refl
letters_same rows rows' e n at (c ∷ cs) =
    ap (λ o. letter_meaning o n c (at + len_utf8 c) cs (letters_meaning rows n (at + len_utf8 c) cs)) (letter_same rows rows' e c)
    ∙ ap (letter_meaning (first_row (has_letter c) 0 rows') n c (at + len_utf8 c) cs) (letters_same rows rows' e n (at + len_utf8 c) cs)

choice_same : (rows rows' : List Row) → map meaning_of_row rows ≡ map meaning_of_row rows' → (name : List ℕ)
    → chosen_by_name rows name ≡ chosen_by_name rows' name
choice_same rows rows' e name =
    let named : first_row (has_name name) 0 rows ≡ first_row (has_name name) 0 rows' = first_same (λ m. bytes_eq m.1 name) rows rows' e in
    let begun : first_row (begins_with name) 0 rows ≡ first_row (begins_with name) 0 rows' =
    first_same (λ m. starts_with nat_eq m.1 name) rows rows' e in
    let count : count_by (begins_with name) rows ≡ count_by (begins_with name) rows' =
    count_same (λ m. starts_with nat_eq m.1 name) rows rows' e in
    ap (λ o. chosen_of o (first_row (begins_with name) 0 rows) (count_by (begins_with name) rows)) named
    ∙ ap (λ o. chosen_of (first_row (has_name name) 0 rows') o (count_by (begins_with name) rows)) begun
    ∙ ap (chosen_of (first_row (has_name name) 0 rows') (first_row (begins_with name) 0 rows')) count

name_same : (rows rows' : List Row) → map meaning_of_row rows ≡ map meaning_of_row rows' → (n : ℕ) (text : List ℕ)
    → name_meaning rows n text ≡ name_meaning rows' n text
name_same rows rows' e n text =
    ap (λ c. choice_meaning c n (value_after n (equals_sign text))) (choice_same rows rows' e (name_before (equals_sign text) text))

form_same : (form : Form) (rows rows' : List Row) → map meaning_of_row rows ≡ map meaning_of_row rows' → (n : ℕ) (word : List ℕ)
    → form_meaning form rows n word ≡ form_meaning form rows' n word
form_same Plain rows rows' e n word = refl
form_same Stop rows rows' e n word = refl
form_same Name rows rows' e n word = name_same rows rows' e n (drop 2 word)
form_same Letters rows rows' e n word = letters_same rows rows' e n 1 (chars (drop 1 word))

meaning_same : (rows rows' : List Row) → map meaning_of_row rows ≡ map meaning_of_row rows' → (next : NextWord) (n : ℕ) (word : List ℕ)
    → meaning rows next n word ≡ meaning rows' next n word
meaning_same rows rows' e Anything n word = form_same (form_of word) rows rows' e n word
meaning_same rows rows' e (Value wanted) n word = refl
meaning_same rows rows' e Operand n word = refl

bring_same : (rows rows' : List Row) → map meaning_of_row rows ≡ map meaning_of_row rows' → (next : NextWord) (n : ℕ)
    (words : List (List ℕ)) (is : List Item) (os : List ℕ) → Bring rows next n words is os → Bring rows' next n words is os
bring_same rows rows' e next n [] is os p = p
bring_same rows rows' e next n (w ∷ ws) is os p =
    (p.0, p.1, p.2, sym (meaning_same rows rows' e next n w) ∙ p.3, p.4, p.5, bring_same rows rows' e p.0.next (n + 1) ws p.1 p.2 p.6)

break_same : (rows rows' : List Row) → map meaning_of_row rows ≡ map meaning_of_row rows' → (next : NextWord) (n : ℕ)
    (words : List (List ℕ)) (f : WordFault) → HasFault rows next n words f → HasFault rows' next n words f
break_same rows rows' e next n [] f p = p
break_same rows rows' e next n (w ∷ ws) f p = elim p [
  | inl q ↦ inl (sym (meaning_same rows rows' e next n w) ∙ q)
  | inr q ↦ inr (q.0, sym (meaning_same rows rows' e next n w) ∙ q.1, break_same rows rows' e q.0.next (n + 1) ws f q.2)
]

pub same_reading : ReadingDependsOnMeanings
same_reading rows rows' words is os e p = record { brings = bring_same rows rows' e Anything 1 words is os p.brings }

pub same_fault : FaultDependsOnMeanings
same_fault rows rows' words f e p = record { breaks = break_same rows rows' e Anything 1 words f p.breaks }
