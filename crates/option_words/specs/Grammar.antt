-- What words ask for, or why they are refused, for any program. What its own words ask for is this by its grammar.
use Rattle.std.specs.Prelude.{◌≡◌, ◌↔◌, ⊤, ℕ, Bool, true, false, List, map, Option, Some, None, Result, Ok, Err}
use Rattle.option_words.specs.Rows.{meaning_of_row}
use Rattle.option_words.specs.Reading.{IsReading, WordFaultAt}
use Rattle.option_words.specs.declared.row.Row.{Row}
use Rattle.option_words.specs.declared.reading.Item.{Item}
use Rattle.option_words.specs.declared.fault.WordFault.{WordFault}
use Rattle.option_words.specs.declared.fault.WordFault.TheVariants.{UnknownShort, UnknownLong, Ambiguous, MissingValue, UnwantedValue, NoMemory as OutOfMemory}
use Rattle.option_words.specs.declared.fault.UsageFault.{UsageFault}
use Rattle.option_words.specs.declared.fault.UsageFault.TheVariants.{Word, BadValue}
use Rattle.option_words.specs.declared.command_error.CommandError.{CommandError}
use Rattle.option_words.specs.declared.command_error.CommandError.TheVariants.{Usage, NoMemory}
use Rattle.option_words.specs.Values.{Meaning, is_given}

-- A program's grammar: its options, the letter of the one that asks that nothing be said, and what a reading of the
-- words asks for, or its first fault.
pub record Grammar (C : Type 0) : Type 0 where
  pub options : List Meaning
  pub quiet : ℕ
  pub asked : List (List ℕ) → List Item → (operands : List ℕ) → Result C UsageFault

-- rows of a table that are the options of a grammar
pub record AreOptionsOf {C : Type 0} (g : Grammar C) (rows : List Row) : Type 0 where
  pub meanings : map meaning_of_row rows ≡ g.options

-- the words ask for this
pub record AskFor {C : Type 0} (g : Grammar C) (words : List (List ℕ)) (c : C) : Type 0 where
  pub rows : List Row
  pub options : AreOptionsOf g rows
  pub items : List Item
  pub operands : List ℕ
  pub reading : IsReading rows words items operands
  pub is : g.asked words items operands ≡ Ok c

-- the words are refused: they can't be read by the options, or what was read is wrong
pub data AreRefusedBy {C : Type 0} (g : Grammar C) (words : List (List ℕ)) (fault : UsageFault) : Type 0 where
  Unread : (rows : List Row) (f : WordFault) → AreOptionsOf g rows → WordFaultAt rows words f → fault ≡ Word f
      → AreRefusedBy g words fault
  Wrong : (rows : List Row) (items : List Item) (operands : List ℕ) → AreOptionsOf g rows
      → IsReading rows words items operands → g.asked words items operands ≡ Err fault → AreRefusedBy g words fault

-- the words can be read, and ask for no message
pub record AskSilence {C : Type 0} (g : Grammar C) (words : List (List ℕ)) : Type 0 where
  pub rows : List Row
  pub options : AreOptionsOf g rows
  pub items : List Item
  pub operands : List ℕ
  pub reading : IsReading rows words items operands
  pub quiet : is_given g.options g.quiet items ≡ true

-- words ask for one thing at most, are refused for one fault at most, and never both
pub record HasOneMeaning {C : Type 0} (g : Grammar C) (words : List (List ℕ)) : Type 0 where
  pub command : (c c' : C) → AskFor g words c → AskFor g words c' → c ≡ c'
  pub fault : (f f' : UsageFault) → AreRefusedBy g words f → AreRefusedBy g words f' → f ≡ f'
  pub either : (c : C) (f : UsageFault) → AskFor g words c → AreRefusedBy g words f → ⊥

-- this is what the words ask for, and nothing else; `quiet` says whether they ask that nothing be said
pub record AskForOnly {C : Type 0} (g : Grammar C) (words : List (List ℕ)) (c : C) (quiet : Bool) : Type 0 where
  pub asks : AskFor g words c
  pub alone : (other : C) → AskFor g words other → other ≡ c
  pub accepted : (fault : UsageFault) → AreRefusedBy g words fault → ⊥
  pub quiet_is : AskSilence g words ↔ (quiet ≡ true)

-- this is what the words ask for, and nothing else, within limits; `quiet` says whether they ask that nothing be said
pub record IsAskedWithin {C : Type 0} (g : Grammar C) (words : List (List ℕ)) (c : C) (Limits : Type 0)
    (quiet : Bool) : Type 0 where
  pub only : AskForOnly g words c quiet
  pub limits : Limits

-- the words are refused for this fault, and ask for nothing
pub record IsRefusalBy {C : Type 0} (g : Grammar C) (words : List (List ℕ)) (fault : UsageFault) (quiet : Bool)
    : Type 0 where
  pub refused : AreRefusedBy g words fault
  pub nothing : (c : C) → AskFor g words c → ⊥
  pub quiet_is : AskSilence g words ↔ (quiet ≡ true)

-- the error of words that can't be read, which so don't ask that nothing be said
abbrev pub unread_error : WordFault → CommandError
unread_error (UnknownShort n c) = Usage (Word (UnknownShort n c)) false
unread_error (UnknownLong n) = Usage (Word (UnknownLong n)) false
unread_error (Ambiguous n) = Usage (Word (Ambiguous n)) false
unread_error (MissingValue n) = Usage (Word (MissingValue n)) false
unread_error (UnwantedValue n) = Usage (Word (UnwantedValue n)) false
unread_error OutOfMemory = NoMemory

-- why words ask for nothing; lack of memory is free
abbrev pub IsErrorBy : {C : Type 0} → Grammar C → List (List ℕ) → CommandError → Type 0
IsErrorBy g words (Usage fault quiet) = IsRefusalBy g words fault quiet
IsErrorBy g words NoMemory = ⊤

-- what is asked for, unless an operand is empty, which is refused if there is no fault before it
abbrev pub unless_empty : {C : Type 0} → Option ℕ → Result C UsageFault → Result C UsageFault
unless_empty o (Err fault) = Err fault
unless_empty None (Ok c) = Ok c
unless_empty (Some n) (Ok c) = Err (BadValue n)
