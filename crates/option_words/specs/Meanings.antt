-- What one word means. Words are counted from 1, and `n` is the number of the word.
use Rattle.std.specs.Prelude.{ℕ, ◌+◌, List, [], ◌∷◌, Option, Some, None, Result, Ok, Err, nat_eq, position, take, drop}
use Rattle.std.specs.Char.{len_utf8}
use Rattle.std.specs.Str.{chars}
use Rattle.option_words.specs.declared.row.Row.{Row}
use Rattle.option_words.specs.declared.row.Takes.{Takes}
use Rattle.option_words.specs.declared.row.Takes.TheVariants.{Never, Always, Optional}
use Rattle.option_words.specs.declared.choice.Chosen.{Chosen}
use Rattle.option_words.specs.declared.choice.Choice.{Choice}
use Rattle.option_words.specs.declared.choice.Choice.TheVariants.{One, Unknown, Several}
use Rattle.option_words.specs.declared.form.Form.{Form}
use Rattle.option_words.specs.declared.form.Form.TheVariants.{Plain, Stop, Name, Letters}
use Rattle.option_words.specs.declared.reading.Item.{Item}
use Rattle.option_words.specs.declared.reading.Spot.{Spot}
use Rattle.option_words.specs.declared.reader.NextWord.{NextWord}
use Rattle.option_words.specs.declared.reader.NextWord.TheVariants.{Anything, Value, Operand}
use Rattle.option_words.specs.declared.fault.WordFault.{WordFault}
use Rattle.option_words.specs.declared.fault.WordFault.TheVariants.{UnknownShort, UnknownLong, Ambiguous, UnwantedValue}
use Rattle.option_words.specs.Forms.{form_of}
use Rattle.option_words.specs.Rows.{has_letter, first_row, chosen_by_name}

-- what a word gives: options, operands, and how the next word is read
pub record Brought : Type 0 where
  pub items : List Item
  pub operands : List ℕ
  pub next : NextWord

-- one option, with its value if it has one
abbrev pub one_item : (row n : ℕ) → Option Spot → Brought
one_item row n value =
    record { items = (record { row = row; word = n; value = value }) ∷ []; operands = []; next = Anything }

-- an option that takes the next word as its value
abbrev pub wants_next : (row n : ℕ) → Brought
wants_next row n = record { items = []; operands = []; next = Value (record { row = row; word = n }) }

-- an operand
abbrev pub one_operand : (n : ℕ) → NextWord → Brought
one_operand n next = record { items = []; operands = n ∷ []; next = next }

-- nothing
abbrev pub nothing : NextWord → Brought
nothing next = record { items = []; operands = []; next = next }

-- an option of a row with the value that its own word has for it
abbrev pub option_meaning : Takes → (row n : ℕ) → Option Spot → Result Brought WordFault
option_meaning Never row n None = Ok (one_item row n None)
option_meaning Never row n (Some spot) = Err (UnwantedValue n)
option_meaning Always row n None = Ok (wants_next row n)
option_meaning Always row n (Some spot) = Ok (one_item row n (Some spot))
option_meaning Optional row n value = Ok (one_item row n value)

-- an option without a value, and then more of its word
abbrev pub with_flag : (row n : ℕ) → Result Brought WordFault → Result Brought WordFault
with_flag row n (Ok b) = Ok (record b { items = (record { row = row; word = n; value = None }) ∷ b.items })
with_flag row n (Err fault) = Err fault

-- the value after a letter, from byte `at` on: the rest of the word, unless it is empty
abbrev pub rest_value : (n at : ℕ) → (rest : List ℕ) → Option Spot
rest_value n at [] = None
rest_value n at (c ∷ cs) = Some (record { word = n; from = at })

-- A letter by what its row takes: one that takes no value is followed by further letters.
abbrev pub letter_by : Takes → (row n at : ℕ) → (rest : List ℕ) → Result Brought WordFault → Result Brought WordFault
letter_by Never row n at rest further = with_flag row n further
letter_by Always row n at rest further = option_meaning Always row n (rest_value n at rest)
letter_by Optional row n at rest further = option_meaning Optional row n (rest_value n at rest)

-- a letter by the row that has it
abbrev pub letter_meaning :
    Option Chosen → (n c at : ℕ) → (rest : List ℕ) → Result Brought WordFault → Result Brought WordFault
letter_meaning None n c at rest further = Err (UnknownShort n c)
letter_meaning (Some chosen) n c at rest further = letter_by chosen.takes chosen.row n at rest further

-- the letters of a word, the first of which is at byte `at`, one after the other
abbrev pub letters_meaning : List Row → (n at : ℕ) → List ℕ → Result Brought WordFault
letters_meaning rows n at [] = Ok (nothing Anything)
letters_meaning rows n at (c ∷ cs) =
    letter_meaning (first_row (has_letter c) 0 rows) n c (at + len_utf8 c) cs
    (letters_meaning rows n (at + len_utf8 c) cs)

-- where the first `=` is
abbrev pub equals_sign : List ℕ → Option ℕ
equals_sign text = position (λ b. nat_eq b 61) text

-- the name before the first `=`, or all of the text if it has none
abbrev pub name_before : Option ℕ → List ℕ → List ℕ
name_before None text = text
name_before (Some k) text = take k text

-- the value after the first `=`, if there is one, of a text that comes after two hyphens
abbrev pub value_after : ℕ → Option ℕ → Option Spot
value_after n None = None
value_after n (Some k) = Some (record { word = n; from = k + 3 })

-- a long name by the row that it means
abbrev pub choice_meaning : Choice → ℕ → Option Spot → Result Brought WordFault
choice_meaning (One chosen) n value = option_meaning chosen.takes chosen.row n value
choice_meaning Unknown n value = Err (UnknownLong n)
choice_meaning Several n value = Err (Ambiguous n)

-- a long name, and after the first `=` its value
abbrev pub name_meaning : List Row → ℕ → List ℕ → Result Brought WordFault
name_meaning rows n text =
    choice_meaning (chosen_by_name rows (name_before (equals_sign text) text)) n (value_after n (equals_sign text))

-- a word that is no value and has no `--` before it
abbrev pub form_meaning : Form → List Row → ℕ → List ℕ → Result Brought WordFault
form_meaning Plain rows n word = Ok (one_operand n Anything)
form_meaning Stop rows n word = Ok (nothing Operand)
form_meaning Name rows n word = name_meaning rows n (drop 2 word)
form_meaning Letters rows n word = letters_meaning rows n 1 (chars (drop 1 word))

-- a word by how the words before it say that it is read
abbrev pub meaning : List Row → NextWord → ℕ → List ℕ → Result Brought WordFault
meaning rows Anything n word = form_meaning (form_of word) rows n word
meaning rows (Value wanted) n word = Ok (one_item wanted.row wanted.word (Some (record { word = n; from = 0 })))
meaning rows Operand n word = Ok (one_operand n Operand)
