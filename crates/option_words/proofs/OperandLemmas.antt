-- The operands of a reading are words.
use Rattle.std.proofs.Common.{◌≡◌, ◌⊎◌, inl, inr, ℕ, ◌+◌, ◌<◌, ◌≤◌, List, [], ◌∷◌, length, drop, All, Option, Some, None, Result, Ok, Err, refl, sym, ◌∙◌, ap, subst, arith}
use Rattle.std.proofs.lemmas.List.Elements.{All-nil, All-cons, All-append, All-weaker}
use Rattle.std.specs.Char.{len_utf8}
use Rattle.std.specs.Str.{chars}
use Rattle.option_words.specs.declared.row.Row.{Row}
use Rattle.option_words.specs.declared.row.Takes.{Takes}
use Rattle.option_words.specs.declared.row.Takes.TheVariants.{Never, Always, Optional}
use Rattle.option_words.specs.declared.choice.Chosen.{Chosen}
use Rattle.option_words.specs.declared.choice.Choice.{Choice}
use Rattle.option_words.specs.declared.choice.Choice.TheVariants.{One, Unknown, Several}
use Rattle.option_words.specs.declared.form.Form.{Form}
use Rattle.option_words.specs.declared.form.Form.TheVariants.{Plain, Stop, Name, Letters}
use Rattle.option_words.specs.declared.reading.Item.{Item}
use Rattle.option_words.specs.declared.reading.Spot.{Spot}
use Rattle.option_words.specs.declared.reader.NextWord.{NextWord}
use Rattle.option_words.specs.declared.reader.NextWord.TheVariants.{Anything, Value, Operand}
use Rattle.option_words.specs.declared.fault.WordFault.{WordFault}
use Rattle.option_words.specs.Forms.{form_of}
use Rattle.option_words.specs.Rows.{has_letter, first_row, chosen_by_name}
use Rattle.option_words.specs.Meanings.{Brought, nothing, one_item, one_operand, wants_next, option_meaning, with_flag, rest_value, letter_by, letter_meaning, letters_meaning, equals_sign, name_before, value_after, choice_meaning, form_meaning, meaning}
use Rattle.option_words.specs.Reading.{Bring}
use Rattle.option_words.specs.Laws.{OperandsAreWords}

abbrev brought : Brought → Result Brought WordFault
brought b = Ok b

same_operands : (b b' : Brought) → brought b ≡ brought b' → b.operands ≡ b'.operands
same_operands b b' e = let same : b ≡ b' = cc in ap (λ (x : Brought). x.operands) same

option_brings : (t : Takes) (row n : ℕ) (value : Option Spot) (b : Brought) → option_meaning t row n value ≡ Ok b → b.operands ≡ []
option_brings Never row n None b e = sym (same_operands (one_item row n None) b e)
option_brings Never row n (Some spot) b e = absurd (cc)
option_brings Always row n None b e = sym (same_operands (wants_next row n) b e)
option_brings Always row n (Some spot) b e = sym (same_operands (one_item row n (Some spot)) b e)
option_brings Optional row n value b e = sym (same_operands (one_item row n value) b e)

abbrev BringsNone : Result Brought WordFault → Type 0
BringsNone r = (b : Brought) → r ≡ Ok b → b.operands ≡ []

flag_brings : (row n : ℕ) (r : Result Brought WordFault) (b : Brought) → BringsNone r → with_flag row n r ≡ Ok b → b.operands ≡ []
flag_brings row n (Ok b') b none e =
    sym (same_operands (record b' { items = (record { row = row; word = n; value = None }) ∷ b'.items }) b e) ∙ none b' refl
flag_brings row n (Err fault) b none e = absurd (cc)

letter_brings_by : (t : Takes) (row n at : ℕ) (rest : List ℕ) (r : Result Brought WordFault) (b : Brought) → BringsNone r
    → letter_by t row n at rest r ≡ Ok b → b.operands ≡ []
letter_brings_by Never row n at rest r b none e = flag_brings row n r b none e
letter_brings_by Always row n at rest r b none e = option_brings Always row n (rest_value n at rest) b e
letter_brings_by Optional row n at rest r b none e = option_brings Optional row n (rest_value n at rest) b e

letter_brings : (chosen : Option Chosen) (n c at : ℕ) (rest : List ℕ) (r : Result Brought WordFault) (b : Brought) → BringsNone r
    → letter_meaning chosen n c at rest r ≡ Ok b → b.operands ≡ []
letter_brings None n c at rest r b none e = absurd (cc)
letter_brings (Some chosen) n c at rest r b none e = letter_brings_by chosen.takes chosen.row n at rest r b none e

letters_bring : (rows : List Row) (n at : ℕ) (cs : List ℕ) (b : Brought) → letters_meaning rows n at cs ≡ Ok b → b.operands ≡ []
letters_bring rows n at [] b e = sym (same_operands (nothing Anything) b e)
letters_bring rows n at (c ∷ cs) b e = letter_brings (first_row (has_letter c) 0 rows) n c (at + len_utf8 c) cs
    (letters_meaning rows n (at + len_utf8 c) cs) b (letters_bring rows n (at + len_utf8 c) cs) e

choice_brings : (choice : Choice) (n : ℕ) (value : Option Spot) (b : Brought) → choice_meaning choice n value ≡ Ok b → b.operands ≡ []
choice_brings (One chosen) n value b e = option_brings chosen.takes chosen.row n value b e
choice_brings Unknown n value b e = absurd (cc)
choice_brings Several n value b e = absurd (cc)

-- no operand, or the word itself
abbrev Only : ℕ → List ℕ → Type 0
Only n operands = (operands ≡ []) ⊎ (operands ≡ n ∷ [])

form_brings : (form : Form) (rows : List Row) (n : ℕ) (w : List ℕ) (b : Brought) → form_meaning form rows n w ≡ Ok b → Only n b.operands
form_brings Plain rows n w b e = inr (sym (same_operands (one_operand n Anything) b e))
form_brings Stop rows n w b e = inl (sym (same_operands (nothing Operand) b e))
form_brings Name rows n w b e = let text = drop 2 w in
    inl (choice_brings (chosen_by_name rows (name_before (equals_sign text) text)) n (value_after n (equals_sign text)) b e)
form_brings Letters rows n w b e = inl (letters_bring rows n 1 (chars (drop 1 w)) b e)

word_brings : (rows : List Row) (next : NextWord) (n : ℕ) (w : List ℕ) (b : Brought) → meaning rows next n w ≡ Ok b → Only n b.operands
word_brings rows Anything n w b e = form_brings (form_of w) rows n w b e
word_brings rows (Value wanted) n w b e =
    inl (sym (same_operands (one_item wanted.row wanted.word (Some (record { word = n; from = 0 }))) b e))
word_brings rows Operand n w b e = inr (sym (same_operands (one_operand n Operand) b e))

-- a number from n on, below m
record Between (n m k : ℕ) : Type 0 where
  from : n ≤ k
  below : k < m

all_only : (n m : ℕ) (operands : List ℕ) → n < m → Only n operands → All (Between n m) operands
all_only n m operands lt only = elim only [
  | inl e ↦ subst (All (Between n m)) (sym e) (All-nil (Between n m))
  | inr e ↦ subst (All (Between n m)) (sym e)
      (All-cons (Between n m) n [] (record { from = omega arith; below = lt }) (All-nil (Between n m)))
]

words_bring : (rows : List Row) (next : NextWord) (n : ℕ) (words : List (List ℕ)) (is : List Item) (os : List ℕ)
    → Bring rows next n words is os → All (Between n (n + length words)) os
words_bring rows next n [] is os p = subst (All (Between n (n + 0))) (sym p.2) (All-nil (Between n (n + 0)))
words_bring rows next n (w ∷ ws) is os p =
    let m = n + length (w ∷ ws) in
    let lt : n < m = omega arith in
    let first : All (Between n m) p.0.operands = all_only n m p.0.operands lt (word_brings rows next n w p.0 p.3) in
    let after : All (Between (n + 1) (n + 1 + length ws)) p.2 = words_bring rows p.0.next (n + 1) ws p.1 p.2 p.6 in
    let wider : (k : ℕ) → Between (n + 1) (n + 1 + length ws) k → Between n m k = λ k b.
    let from = b.from in let below = b.below in record { from = omega arith; below = omega arith } in
    let all : All (Between n m) p.2 = All-weaker (Between (n + 1) (n + 1 + length ws)) (Between n m) wider p.2 after in
    subst (All (Between n m)) (sym p.5) (All-append (Between n m) p.0.operands p.2 first all)

pub operands_words : OperandsAreWords
operands_words rows words is os p =
    let is_word : (k : ℕ) → Between 1 (1 + length words) k → (1 ≤ k) × (k ≤ length words) = λ k b.
    let from = b.from in let below = b.below in (from, omega arith) in
    All-weaker (Between 1 (1 + length words)) (λ n. (1 ≤ n) × (n ≤ length words)) is_word os
    (words_bring rows Anything 1 words is os p.brings)
