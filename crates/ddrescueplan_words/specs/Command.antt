-- What the words of `ddrescueplan` ask for, or why they are refused.
use Rattle.std.specs.Prelude.{◌≡◌, ℕ, ◌≤◌, false, List, [], ◌∷◌, length, Option, Some, None, Result, Ok, Err, option_and_then, if◌then◌else◌}
use Rattle.option_words.specs.Words.{word}
use Rattle.option_words.specs.declared.row.Row.{Row}
use Rattle.option_words.specs.declared.reading.Item.{Item}
use Rattle.option_words.specs.declared.fault.UsageFault.{UsageFault}
use Rattle.option_words.specs.declared.fault.UsageFault.TheVariants.{BadValue, Operands}
use Rattle.option_words.specs.declared.command_error.CommandError.{CommandError}
use Rattle.option_words.specs.Values.{is_empty_text, last_of, quiet_letter, size_by, within_range, word_in}
use Rattle.option_words.specs.Grammar.{Grammar, AreOptionsOf, AskFor, AreRefusedBy, IsAskedWithin, IsErrorBy}
use Rattle.run_options.specs.Limits.{no_limits}
use Rattle.ddrescue_words.specs.declared.options.Options.{Options}
use Rattle.ddrescue_words.specs.Options.{cluster_letter}
use Rattle.ddrescue_words.specs.Asking.{is_too_large, AreInLimits as AreRescueLimits}
use Rattle.ddrescueplan_words.specs.declared.options.PlanOptions.{PlanOptions}
use Rattle.ddrescueplan_words.specs.declared.command.Command.{Command as CommandCode}
use Rattle.ddrescueplan_words.specs.Options.{option_meanings, options_in}

-- the length of the input, the name of the map of what can be read of it, and what the options say
pub record Command : Type 0 where
  pub length : ℕ
  pub test_map : List ℕ
  pub options : PlanOptions

-- the command that the code hands on
abbrev pub told_by : CommandCode → Command
told_by c = record { length = c.length; test_map = c.test_map.now; options = c.options }

-- no input is longer than this, in bytes
abbrev pub length_limit : ℕ
length_limit = 1099511627776

-- the length that a text gives; `s` is the sector in it
abbrev pub length_by : (sector : ℕ) → List ℕ → Option ℕ
length_by sector text = option_and_then (within_range 0 length_limit) (size_by sector (Some text))

-- the word of a length is checked first, then that of a name, which isn't empty
abbrev pub with_length : Option ℕ → (n m : ℕ) → (name : List ℕ) → PlanOptions → Result Command UsageFault
with_length None n m name o = Err (BadValue n)
with_length (Some bytes) n m name o =
    if is_empty_text name then Err (BadValue m) else Ok (record { length = bytes; test_map = name; options = o })

-- two operands are the length and the test map; another number is refused
abbrev pub command_with : List (List ℕ) → PlanOptions → (operands : List ℕ) → Result Command UsageFault
command_with words o [] = Err (Operands 0)
command_with words o (n ∷ []) = Err (Operands 1)
command_with words o (n ∷ m ∷ []) = with_length (length_by o.rescue.sector (word words n)) n m (word words m) o
command_with words o (n ∷ m ∷ third ∷ more) = Err (Operands (length (n ∷ m ∷ third ∷ more)))

-- the word of the option that gives the cluster, among the options of `ddrescueplan`
abbrev pub cluster_word : List Item → ℕ
cluster_word items = word_in (last_of option_meanings cluster_letter items)

-- What a reading of the words asks for, or its first fault: a bad value, then a cluster that is too large, then the
-- operands.
abbrev pub command_by : List (List ℕ) → List Item → Result PlanOptions ℕ → (operands : List ℕ)
    → Result Command UsageFault
command_by words items (Err n) operands = Err (BadValue n)
command_by words items (Ok o) operands =
    if is_too_large o.rescue then Err (BadValue (cluster_word items)) else command_with words o operands

-- what words ask for by their options and operands, or their first fault
abbrev pub command_in : List (List ℕ) → List Item → (operands : List ℕ) → Result Command UsageFault
command_in words items operands = command_by words items (options_in words items) operands

-- the grammar of `ddrescueplan`
abbrev pub plan_grammar : Grammar Command
plan_grammar = record { options = option_meanings; quiet = quiet_letter; asked = command_in }

-- rows of a table that are the options of `ddrescueplan`
abbrev pub AreOptions : List Row → Type 0
AreOptions rows = AreOptionsOf plan_grammar rows

-- the words ask for this
abbrev pub Asks : List (List ℕ) → Command → Type 0
Asks words c = AskFor plan_grammar words c

-- the words are refused for this fault
abbrev pub AreRefused : List (List ℕ) → UsageFault → Type 0
AreRefused words fault = AreRefusedBy plan_grammar words fault

-- What the options of a plan can't ask for is as if no option asks for it. No read is slow, there is no limit, every
-- position of the input is asked for in its own place, and nothing is tried again.
pub record ArePlain (o : Options) : Type 0 where
  pub rate : o.min_rate ≡ 0
  pub output : o.output_position ≡ None
  pub limits : o.limits ≡ no_limits
  pub try_again : o.try_again ≡ false
  pub retrim : o.retrim ≡ false
  pub complete : o.complete_only ≡ false

-- what is asked for is within limits
pub record AreInLimits (c : Command) : Type 0 where
  pub options : AreRescueLimits c.options.rescue
  pub plain : ArePlain c.options.rescue
  pub length : c.length ≤ length_limit

-- this is what the words ask for, and nothing else; within limits
abbrev pub IsAsked : List (List ℕ) → Command → Type 0
IsAsked words c = IsAskedWithin plan_grammar words c (AreInLimits c) c.options.rescue.quiet

-- why words ask for nothing; lack of memory is free
abbrev pub IsErrorOf : List (List ℕ) → CommandError → Type 0
IsErrorOf words error = IsErrorBy plan_grammar words error
