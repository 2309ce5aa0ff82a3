-- What the words of a command line mean.
use Rattle.std.specs.Prelude.{◌≡◌, ◌⊎◌, ⊤, ℕ, ◌+◌, List, [], ◌∷◌, ◌++◌, Ok, Err}
use Rattle.option_words.specs.declared.row.Row.{Row}
use Rattle.option_words.specs.declared.reading.Item.{Item}
use Rattle.option_words.specs.declared.reader.NextWord.{NextWord}
use Rattle.option_words.specs.declared.reader.NextWord.TheVariants.{Anything, Value, Operand}
use Rattle.option_words.specs.declared.fault.WordFault.{WordFault}
use Rattle.option_words.specs.declared.fault.WordFault.TheVariants.{MissingValue}
use Rattle.option_words.specs.Meanings.{Brought, meaning}

-- no option still wants a value
abbrev pub IsServed : NextWord → Type 0
IsServed Anything = ⊤
IsServed (Value wanted) = ⊥
IsServed Operand = ⊤

-- an option still wants a value, which is a fault of its word
abbrev pub IsUnserved : NextWord → WordFault → Type 0
IsUnserved Anything fault = ⊥
IsUnserved (Value wanted) fault = fault ≡ MissingValue wanted.word
IsUnserved Operand fault = ⊥

-- the words from number n on give these options and these operands, each word in its turn
abbrev pub Bring : List Row → NextWord → ℕ → List (List ℕ) → List Item → List ℕ → Type 0
Bring rows next n [] items operands = IsServed next × (items ≡ []) × (operands ≡ [])
Bring rows next n (word ∷ words) items operands =
    (b : Brought) × (items' : List Item) × (operands' : List ℕ) × (meaning rows next n word ≡ Ok b)
    × (items ≡ b.items ++ items') × (operands ≡ b.operands ++ operands')
    × Bring rows b.next (n + 1) words items' operands'

-- the first of the words from number n on that has no meaning has this fault
abbrev pub HasFault : List Row → NextWord → ℕ → List (List ℕ) → WordFault → Type 0
HasFault rows next n [] fault = IsUnserved next fault
HasFault rows next n (word ∷ words) fault =
    (meaning rows next n word ≡ Err fault)
    ⊎ ((b : Brought) × (meaning rows next n word ≡ Ok b) × HasFault rows b.next (n + 1) words fault)

-- the options and the operands that words give
pub record IsReading (rows : List Row) (words : List (List ℕ)) (items : List Item) (operands : List ℕ) : Type 0 where
  pub brings : Bring rows Anything 1 words items operands

-- why words can't be read
pub record WordFaultAt (rows : List Row) (words : List (List ℕ)) (fault : WordFault) : Type 0 where
  pub breaks : HasFault rows Anything 1 words fault
