-- What one reading of words gives to every program. For contracts and proofs: no promise uses it.
use Rattle.std.specs.Prelude.{◌≡◌, ◌⊎◌, ℕ, List, map}
use Rattle.option_words.specs.Rows.{meaning_of_row}
use Rattle.option_words.specs.Reading.{IsReading, WordFaultAt}
use Rattle.option_words.specs.declared.row.Row.{Row}
use Rattle.option_words.specs.declared.reading.Item.{Item}
use Rattle.option_words.specs.declared.fault.WordFault.{WordFault}
use Rattle.option_words.specs.declared.fault.WordFault.TheVariants.{NoMemory}
use Rattle.option_words.specs.declared.fault.UsageFault.{UsageFault}
use Rattle.option_words.specs.declared.command_error.CommandError.{CommandError}
use Rattle.option_words.specs.declared.command_error.CommandError.TheVariants.{Usage}
use Rattle.option_words.specs.Grammar.{unread_error}
use Rattle.option_words.specs.Values.{Meaning, is_given, quiet_letter}

-- the words are read by rows of these options, and this is so of what they give
pub record IsReadAs (options : List Meaning) (words : List (List ℕ)) (Is : List Item → List ℕ → Type 0) : Type 0 where
  pub rows : List Row
  pub meanings : map meaning_of_row rows ≡ options
  pub items : List Item
  pub operands : List ℕ
  pub reading : IsReading rows words items operands
  pub is : Is items operands

-- why words ask for nothing: they can't be read by rows of these options, or what they give is refused
pub data IsRefusedAs (options : List Meaning) (words : List (List ℕ)) (Is : List Item → List ℕ → UsageFault → Type 0)
    (error : CommandError) : Type 0 where
  CannotRead : (rows : List Row) (f : WordFault) → map meaning_of_row rows ≡ options
      → (f ≡ NoMemory) ⊎ WordFaultAt rows words f → error ≡ unread_error f → IsRefusedAs options words Is error
  Refuses : (rows : List Row) (items : List Item) (operands : List ℕ) (f : UsageFault)
      → map meaning_of_row rows ≡ options → IsReading rows words items operands → Is items operands f
      → error ≡ Usage f (is_given (map meaning_of_row rows) quiet_letter items) → IsRefusedAs options words Is error
