-- What the words of `ddrescuepart` ask for, or why they are refused.
use Rattle.std.specs.Prelude.{ℕ, ◌≤◌, Bool, List, [], ◌∷◌, length, Option, Some, None, Result, Ok, Err, option_and_then, codes, if◌then◌else◌}
use Rattle.option_words.specs.Words.{word}
use Rattle.option_words.specs.declared.row.Takes.TheVariants.{Never}
use Rattle.option_words.specs.declared.row.Row.{Row}
use Rattle.option_words.specs.declared.reading.Item.{Item}
use Rattle.option_words.specs.declared.fault.UsageFault.{UsageFault}
use Rattle.option_words.specs.declared.fault.UsageFault.TheVariants.{BadValue, Operands}
use Rattle.option_words.specs.declared.command_error.CommandError.{CommandError}
use Rattle.option_words.specs.Values.{Meaning, is_empty_text, is_given, number_by, quiet_letter, within_range}
use Rattle.option_words.specs.Grammar.{Grammar, AreOptionsOf, AskFor, AreRefusedBy, IsAskedWithin, IsErrorBy}
use Rattle.ddrescuepart_words.specs.declared.command.Command.{Command as CommandCode}

-- the infile's name, the number of the partition, counted from 1, and whether nothing is to be said
pub record Command : Type 0 where
  pub infile : List ℕ
  pub partition : ℕ
  pub quiet : Bool

-- the command that the code hands on
abbrev pub told_by : CommandCode → Command
told_by c = record { infile = c.infile.now; partition = c.partition; quiet = c.quiet }

-- the one option there is
abbrev pub option_meanings : List Meaning
option_meanings = (Some quiet_letter, codes "quiet", Never) ∷ []

-- the greatest number of a partition: four entries of the first record, and one for each record of the longest chain
abbrev pub last_partition : ℕ
last_partition = 132

-- the number of a partition that a text gives
abbrev pub partition_by : List ℕ → Option ℕ
partition_by text = option_and_then (within_range 1 last_partition) (number_by (Some text))

-- a command for a partition, unless the word with this number gives none
abbrev pub with_partition : (infile : List ℕ) → (n : ℕ) → Option ℕ → (quiet : Bool) → Result Command UsageFault
with_partition infile n None quiet = Err (BadValue n)
with_partition infile n (Some k) quiet = Ok (record { infile = infile; partition = k; quiet = quiet })

-- Two operands, the infile and the number of a partition. Another number of them is refused; then an empty name; then a
-- number that is none.
abbrev pub with_operands : List (List ℕ) → (quiet : Bool) → (operands : List ℕ) → Result Command UsageFault
with_operands words quiet [] = Err (Operands 0)
with_operands words quiet (i ∷ []) = Err (Operands 1)
with_operands words quiet (i ∷ k ∷ []) =
    if is_empty_text (word words i) then Err (BadValue i)
    else with_partition (word words i) k (partition_by (word words k)) quiet
with_operands words quiet (i ∷ k ∷ n ∷ more) = Err (Operands (length (i ∷ k ∷ n ∷ more)))

-- what a reading of the words asks for, or its first fault
abbrev pub command_in : List (List ℕ) → List Item → (operands : List ℕ) → Result Command UsageFault
command_in words items operands = with_operands words (is_given option_meanings quiet_letter items) operands

-- the grammar of `ddrescuepart`
abbrev pub part_grammar : Grammar Command
part_grammar = record { options = option_meanings; quiet = quiet_letter; asked = command_in }

-- rows of a table that are the options of `ddrescuepart`
abbrev pub AreOptions : List Row → Type 0
AreOptions rows = AreOptionsOf part_grammar rows

-- the words ask for this
abbrev pub Asks : List (List ℕ) → Command → Type 0
Asks words c = AskFor part_grammar words c

-- the words are refused for this fault
abbrev pub AreRefused : List (List ℕ) → UsageFault → Type 0
AreRefused words fault = AreRefusedBy part_grammar words fault

-- the number of a partition is within its limits
pub record IsInLimits (c : Command) : Type 0 where
  pub low : 1 ≤ c.partition
  pub high : c.partition ≤ last_partition

-- this is what the words ask for, and nothing else; within its limits
abbrev pub IsAsked : List (List ℕ) → Command → Type 0
IsAsked words c = IsAskedWithin part_grammar words c (IsInLimits c) c.quiet

-- why words ask for nothing; lack of memory is free
abbrev pub IsErrorOf : List (List ℕ) → CommandError → Type 0
IsErrorOf words error = IsErrorBy part_grammar words error
