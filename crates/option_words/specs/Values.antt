-- What the values of options say, for any program, and which of them count.
use Rattle.std.specs.Prelude.{ℕ, ◌≤◌, Bool, false, not, ◌&&◌, nat_eq, nat_le, List, [], ◌∷◌, length, map, drop, find, slice_get, Option, Some, None, Result, Ok, Err, ok_or, option_and_then, codes, if◌then◌else◌}
use Rattle.std.specs.Result.{result_ok}
use Rattle.std.specs.List.{list_any}
use Rattle.size_suffixes.specs.Number.{number}
use Rattle.size_suffixes.specs.Sectors.{largest_sector}
use Rattle.size_suffixes.specs.Size.{size}
use Rattle.option_words.specs.Words.{word}
use Rattle.option_words.specs.Rows.{is_letter}
use Rattle.option_words.specs.declared.row.Takes.{Takes}
use Rattle.option_words.specs.declared.row.Takes.TheVariants.{Never, Always}
use Rattle.option_words.specs.declared.reading.Item.{Item}
use Rattle.option_words.specs.declared.reading.Spot.{Spot}

-- ---- the rows of a program's options

-- One option of a program: its letter, if it has one, its long name, and whether it takes a value. What it sets by the
-- text of its value, if it has one, when sizes go by a sector; nothing if that is a bad value. A later option is a row
-- more.
pub record OptionRow (O : Type 0) : Type 0 where
  pub letter : Option ℕ
  pub name : List ℕ
  pub takes : Takes
  pub sets : (sector : ℕ) → O → Option (List ℕ) → Option O

-- an option of a letter without a value
abbrev pub flag : {O : Type 0} → (letter : ℕ) → List ℕ → (O → O) → OptionRow O
flag letter name sets =
    record { letter = Some letter; name = name; takes = Never; sets = λ sector o value. Some (sets o) }

-- an option of a letter with a value
abbrev pub valued : {O : Type 0} → (letter : ℕ) → List ℕ → (ℕ → O → Option (List ℕ) → Option O) → OptionRow O
valued letter name sets = record { letter = Some letter; name = name; takes = Always; sets = sets }

-- the letter that a text of one character is
abbrev pub letter_in : List ℕ → ℕ
letter_in [] = 0
letter_in (c ∷ text) = c

-- The letter of the option for the size of a sector (`-b`), in every program. It is set before all others.
abbrev pub sector_letter : ℕ
sector_letter = letter_in (codes "b")

-- the letter of the option that nothing be said (`-q`), in every program
abbrev pub quiet_letter : ℕ
quiet_letter = letter_in (codes "q")

-- the letter of the option that names the domain map (`-m`), in every program that has one; it is read by itself
abbrev pub domain_letter : ℕ
domain_letter = letter_in (codes "m")

-- an option's letter, its long name, and whether it takes a value
abbrev pub Meaning : Type 0
Meaning = Option ℕ × List ℕ × Takes

-- what the words of a command line are read by
abbrev pub meanings_of : {O : Type 0} → List (OptionRow O) → List Meaning
meanings_of rows = map (λ r. (r.letter, r.name, r.takes)) rows

-- the row of this letter, if there is one
abbrev pub row_of : {O : Type 0} → (letter : ℕ) → List (OptionRow O) → Option (OptionRow O)
row_of letter rows = find (λ r. is_letter letter r.letter) rows

-- the letter of a row, counted from 0, if there is such a row and it has one
abbrev pub letter_at : {O : Type 0} → List (OptionRow O) → (row : ℕ) → Option ℕ
letter_at rows row = option_and_then (λ r. r.letter) (slice_get rows row)

-- ---- which options are given

-- the letter of an option, if there is one
abbrev pub letter_meant : Option Meaning → Option ℕ
letter_meant None = None
letter_meant (Some m) = m.0

-- what was given is the option of this letter
abbrev pub is_of : List Meaning → (letter : ℕ) → Item → Bool
is_of options letter i = is_letter letter (letter_meant (slice_get options i.row))

-- the option of this letter is given
abbrev pub is_given : List Meaning → (letter : ℕ) → List Item → Bool
is_given options letter items = list_any (is_of options letter) items

-- the later of two that were given, if there are such
abbrev pub later : Option Item → Option Item → Option Item
later (Some i) earlier = Some i
later None earlier = earlier

-- the last option of this letter, which is the one that counts
abbrev pub last_of : List Meaning → (letter : ℕ) → List Item → Option Item
last_of options letter [] = None
last_of options letter (i ∷ items) =
    later (last_of options letter items) (if is_of options letter i then Some i else None)

-- ---- their values

-- the text of an option's value, if it has one; an empty text is one
abbrev pub value_of : List (List ℕ) → Option Spot → Option (List ℕ)
value_of words None = None
value_of words (Some spot) = Some (drop spot.from (word words spot.word))

-- the word in which an option's value begins
abbrev pub word_at : Option Spot → ℕ
word_at None = 0
word_at (Some spot) = spot.word

-- the text of the last value of the option of this letter, if there is one
abbrev pub last_value : List Meaning → List (List ℕ) → (letter : ℕ) → List Item → Option (List ℕ)
last_value options words letter items = option_and_then (λ i. value_of words i.value) (last_of options letter items)

-- the word of an option that was given
abbrev pub word_in : Option Item → ℕ
word_in None = 0
word_in (Some i) = i.word

-- a text has no bytes
abbrev pub is_empty_text : List ℕ → Bool
is_empty_text text = nat_eq (length text) 0

-- a sector's size in bytes, if no option gives it
abbrev pub default_sector : ℕ
default_sector = 512

-- a number within a range
abbrev pub within_range : (least most : ℕ) → ℕ → Option ℕ
within_range least most n = if nat_le least n && nat_le n most then Some n else None

-- the size of a sector; `s` is 512 in it
abbrev pub sector_of : List ℕ → Option ℕ
sector_of text = option_and_then (within_range 1 largest_sector) (result_ok (size default_sector text))

-- a size in bytes that a value gives; `s` is the sector in it
abbrev pub size_by : (sector : ℕ) → Option (List ℕ) → Option ℕ
size_by sector value = option_and_then (λ text. result_ok (size sector text)) value

-- a number that a value gives
abbrev pub number_by : Option (List ℕ) → Option ℕ
number_by value = option_and_then (λ text. result_ok (number text)) value

-- a value is a name: any text that isn't empty
abbrev pub is_name : Option (List ℕ) → Bool
is_name None = false
is_name (Some text) = not (is_empty_text text)

-- ---- what they set, one after the other

-- what options set one after the other, or the word of the first bad value
abbrev pub set_in_turn : {O : Type 0} → (O → Item → Result O ℕ) → Result O ℕ → List Item → Result O ℕ
set_in_turn f (Err n) items = Err n
set_in_turn f (Ok o) [] = Ok o
set_in_turn f (Ok o) (i ∷ items) = set_in_turn f (f o i) items

-- the sector after an option that may give it, which is that of this letter; or the word of its bad value
abbrev pub with_sector : List Meaning → (letter : ℕ) → List (List ℕ) → (sector : ℕ) → Item → Result ℕ ℕ
with_sector options letter words sector i =
    if is_of options letter i then ok_or (option_and_then sector_of (value_of words i.value)) (word_at i.value)
    else Ok sector

-- what the option of a row sets, if there is such a row
abbrev pub set_by : {O : Type 0} → Option (OptionRow O) → (sector : ℕ) → O → Option (List ℕ) → Option O
set_by None sector o value = None
set_by (Some r) sector o value = r.sets sector o value

-- what an option that was given sets, or the word of its bad value
abbrev pub with_item : {O : Type 0} → List (OptionRow O) → (sector : ℕ) → List (List ℕ) → O → Item → Result O ℕ
with_item rows sector words o i =
    ok_or (set_by (slice_get rows i.row) sector o (value_of words i.value)) (word_at i.value)

-- what all options set if the sector is known
abbrev pub options_with : {O : Type 0} → List (OptionRow O) → (none : ℕ → O) → List (List ℕ) → List Item
    → (sector : Result ℕ ℕ) → Result O ℕ
options_with rows none words items (Err n) = Err n
options_with rows none words items (Ok sector) = set_in_turn (with_item rows sector words) (Ok (none sector)) items

-- What all options ask for, or the word of the first bad value: those that give the sector, which are those of this
-- letter, come first, then all in their order. `none` is what is asked for if no other option is given.
abbrev pub options_in : {O : Type 0} → List (OptionRow O) → (letter : ℕ) → (none : ℕ → O) → List (List ℕ)
    → List Item → Result O ℕ
options_in rows letter none words items =
    options_with rows none words items
    (set_in_turn (with_sector (meanings_of rows) letter words) (Ok default_sector) items)

-- ---- operands

-- the first operand that is empty
abbrev pub empty_operand : List (List ℕ) → (operands : List ℕ) → Option ℕ
empty_operand words operands = find (λ n. is_empty_text (word words n)) operands

-- the number of a word, counted from 1
pub record IsWord (words : List (List ℕ)) (n : ℕ) : Type 0 where
  pub counted : 1 ≤ n
  pub within : n ≤ length words
