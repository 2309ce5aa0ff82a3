-- Lack of memory is no fault of words.
use Rattle.std.proofs.Common.{◌≡◌, inl, inr, ℕ, ◌+◌, List, [], ◌∷◌, Option, Some, None, Result, Ok, Err}
use Rattle.std.specs.Prelude.{drop}
use Rattle.std.specs.Char.{len_utf8}
use Rattle.std.specs.Str.{chars}
use Rattle.option_words.specs.declared.row.Row.{Row}
use Rattle.option_words.specs.declared.row.Takes.{Takes}
use Rattle.option_words.specs.declared.row.Takes.TheVariants.{Never, Always, Optional}
use Rattle.option_words.specs.declared.choice.Chosen.{Chosen}
use Rattle.option_words.specs.declared.choice.Choice.{Choice}
use Rattle.option_words.specs.declared.choice.Choice.TheVariants.{One, Unknown, Several}
use Rattle.option_words.specs.declared.form.Form.{Form}
use Rattle.option_words.specs.declared.form.Form.TheVariants.{Plain, Stop, Name, Letters}
use Rattle.option_words.specs.declared.reading.Spot.{Spot}
use Rattle.option_words.specs.declared.reader.NextWord.{NextWord}
use Rattle.option_words.specs.declared.reader.NextWord.TheVariants.{Anything, Value, Operand}
use Rattle.option_words.specs.declared.fault.WordFault.{WordFault}
use Rattle.option_words.specs.declared.fault.WordFault.TheVariants.{UnknownShort, UnknownLong, Ambiguous, MissingValue, UnwantedValue, NoMemory}
use Rattle.option_words.specs.Forms.{form_of}
use Rattle.option_words.specs.Rows.{has_letter, first_row, chosen_by_name}
use Rattle.option_words.specs.Meanings.{Brought, option_meaning, with_flag, rest_value, letter_by, letter_meaning, letters_meaning, equals_sign, name_before, value_after, choice_meaning, form_meaning, meaning}
use Rattle.option_words.specs.Reading.{IsUnserved, HasFault}
use Rattle.option_words.specs.Laws.{NoWordsLackMemory}

abbrev Lacks : Result Brought WordFault → Type 0
Lacks r = r ≡ Err NoMemory

option_never : (takes : Takes) (row n : ℕ) (value : Option Spot) → Lacks (option_meaning takes row n value) → ⊥
option_never Never row n None is = absurd (cc)
option_never Never row n (Some spot) is = absurd (let wrong : UnwantedValue n ≡ NoMemory = cc in cc)
option_never Always row n None is = absurd (cc)
option_never Always row n (Some spot) is = absurd (cc)
option_never Optional row n value is = absurd (cc)

flag_never : (row n : ℕ) (further : Result Brought WordFault) → (Lacks further → ⊥) → Lacks (with_flag row n further) → ⊥
flag_never row n (Ok b) never is = absurd (cc)
flag_never row n (Err fault) never is = never is

letter_by_never : (takes : Takes) (row n at : ℕ) (rest : List ℕ) (further : Result Brought WordFault) → (Lacks further → ⊥)
    → Lacks (letter_by takes row n at rest further) → ⊥
letter_by_never Never row n at rest further never is = flag_never row n further never is
letter_by_never Always row n at rest further never is = option_never Always row n (rest_value n at rest) is
letter_by_never Optional row n at rest further never is = option_never Optional row n (rest_value n at rest) is

letter_never : (chosen : Option Chosen) (n c at : ℕ) (rest : List ℕ) (further : Result Brought WordFault) → (Lacks further → ⊥)
    → Lacks (letter_meaning chosen n c at rest further) → ⊥
letter_never None n c at rest further never is = absurd (let wrong : UnknownShort n c ≡ NoMemory = cc in cc)
letter_never (Some chosen) n c at rest further never is = letter_by_never chosen.takes chosen.row n at rest further never is

letters_never : (rows : List Row) (n at : ℕ) (cs : List ℕ) → Lacks (letters_meaning rows n at cs) → ⊥
letters_never rows n at [] is = absurd (cc)
letters_never rows n at (c ∷ cs) is =
    letter_never (first_row (has_letter c) 0 rows) n c (at + len_utf8 c) cs (letters_meaning rows n (at + len_utf8 c) cs)
    (letters_never rows n (at + len_utf8 c) cs) is

choice_never : (choice : Choice) (n : ℕ) (value : Option Spot) → Lacks (choice_meaning choice n value) → ⊥
choice_never (One chosen) n value is = option_never chosen.takes chosen.row n value is
choice_never Unknown n value is = absurd (let wrong : UnknownLong n ≡ NoMemory = cc in cc)
choice_never Several n value is = absurd (let wrong : Ambiguous n ≡ NoMemory = cc in cc)

form_never : (form : Form) (rows : List Row) (n : ℕ) (word : List ℕ) → Lacks (form_meaning form rows n word) → ⊥
form_never Plain rows n word is = absurd (cc)
form_never Stop rows n word is = absurd (cc)
form_never Name rows n word is =
    let text : List ℕ = drop 2 word in
    choice_never (chosen_by_name rows (name_before (equals_sign text) text)) n (value_after n (equals_sign text)) is
form_never Letters rows n word is = letters_never rows n 1 (chars (drop 1 word)) is

meaning_never : (rows : List Row) (next : NextWord) (n : ℕ) (word : List ℕ) → Lacks (meaning rows next n word) → ⊥
meaning_never rows Anything n word is = form_never (form_of word) rows n word is
meaning_never rows (Value wanted) n word is = absurd (cc)
meaning_never rows Operand n word is = absurd (cc)

unserved_never : (next : NextWord) → IsUnserved next NoMemory → ⊥
unserved_never Anything is = is
unserved_never (Value wanted) is = absurd (let wrong : NoMemory ≡ MissingValue wanted.word = is in cc)
unserved_never Operand is = is

break_never : (rows : List Row) (next : NextWord) (n : ℕ) (words : List (List ℕ)) → HasFault rows next n words NoMemory → ⊥
break_never rows next n [] is = unserved_never next is
break_never rows next n (w ∷ ws) (inl is) = meaning_never rows next n w is
break_never rows next n (w ∷ ws) (inr after) = break_never rows after.0.next (n + 1) ws after.2

pub never_memory : NoWordsLackMemory
never_memory rows words at = break_never rows Anything 1 words at.breaks
