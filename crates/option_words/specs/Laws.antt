-- Laws of reading words by a table of options.
use Rattle.std.specs.Prelude.{◌≡◌, ◌⊎◌, ℕ, ◌<◌, ◌≤◌, true, List, [], Some, Contains, slice_get, All, length, map}
use Rattle.option_words.specs.declared.row.Row.{Row}
use Rattle.option_words.specs.declared.reading.Item.{Item}
use Rattle.option_words.specs.declared.fault.WordFault.{WordFault}
use Rattle.option_words.specs.declared.fault.WordFault.TheVariants.{NoMemory}
use Rattle.option_words.specs.Reading.{IsReading, WordFaultAt}
use Rattle.option_words.specs.Rows.{meaning_of_row}
use Rattle.option_words.specs.Tables.{is_table}

-- words have one reading at most
abbrev pub HasOneReading : Type 0
HasOneReading = (rows : List Row) (words : List (List ℕ)) (items items' : List Item) (operands operands' : List ℕ)
    → IsReading rows words items operands → IsReading rows words items' operands'
    → (items ≡ items') × (operands ≡ operands')

-- words have one first fault at most
abbrev pub HasOneFault : Type 0
HasOneFault = (rows : List Row) (words : List (List ℕ)) (fault fault' : WordFault)
    → WordFaultAt rows words fault → WordFaultAt rows words fault' → fault ≡ fault'

-- words that have a reading have no fault
abbrev pub ReadingHasNoFault : Type 0
ReadingHasNoFault =
    (rows : List Row) (words : List (List ℕ)) (items : List Item) (operands : List ℕ) (fault : WordFault)
    → IsReading rows words items operands → WordFaultAt rows words fault → ⊥

-- no words have lack of memory as their fault
abbrev pub NoWordsLackMemory : Type 0
NoWordsLackMemory = (rows : List Row) (words : List (List ℕ)) → WordFaultAt rows words NoMemory → ⊥

-- words have a reading or a fault
abbrev pub IsReadOrHasFault : Type 0
IsReadOrHasFault = (rows : List Row) (words : List (List ℕ))
    → ((items : List Item) × (operands : List ℕ) × IsReading rows words items operands)
    ⊎ ((fault : WordFault) × WordFaultAt rows words fault)

-- the operands of a reading are words, counted from 1
abbrev pub OperandsAreWords : Type 0
OperandsAreWords = (rows : List Row) (words : List (List ℕ)) (items : List Item) (operands : List ℕ)
    → IsReading rows words items operands → All (λ n. (1 ≤ n) × (n ≤ length words)) operands

-- rows that mean the same give the same readings
abbrev pub ReadingDependsOnMeanings : Type 0
ReadingDependsOnMeanings = (rows rows' : List Row) (words : List (List ℕ)) (items : List Item) (operands : List ℕ)
    → map meaning_of_row rows ≡ map meaning_of_row rows'
    → IsReading rows words items operands → IsReading rows' words items operands

-- rows that mean the same give the same faults
abbrev pub FaultDependsOnMeanings : Type 0
FaultDependsOnMeanings = (rows rows' : List Row) (words : List (List ℕ)) (fault : WordFault)
    → map meaning_of_row rows ≡ map meaning_of_row rows' → WordFaultAt rows words fault → WordFaultAt rows' words fault

-- no letter of a table is `-`, and no name is empty or holds `=`
abbrev pub TableRowsFit : Type 0
TableRowsFit = (rows : List Row) (k : ℕ) (row : Row) → is_table rows ≡ true → slice_get rows k ≡ Some row
    → (row.short ≡ Some 45 → ⊥) × (row.long.now ≡ [] → ⊥) × (Contains row.long.now 61 → ⊥)

-- no two rows of a table share a letter or a name
abbrev pub TableRowsAreApart : Type 0
TableRowsAreApart = (rows : List Row) (j k : ℕ) (row other : Row) → is_table rows ≡ true → j < k
    → slice_get rows j ≡ Some row → slice_get rows k ≡ Some other
    → ((c : ℕ) → row.short ≡ Some c → other.short ≡ Some c → ⊥) × (row.long.now ≡ other.long.now → ⊥)
