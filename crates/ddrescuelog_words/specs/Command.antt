-- What the words of `ddrescuelog` ask for, or why they are refused.
use Rattle.std.specs.Prelude.{◌≡◌, ℕ, ◌^◌, ◌<◌, ◌≤◌, Bool, true, false, ◌&&◌, nat_eq, List, [], ◌∷◌, length, count_by, Option, Some, None, Result, Ok, Err, IfSome, option_map, option_and_then, if◌then◌else◌}
use Rattle.size_suffixes.specs.Sectors.{largest_sector}
use Rattle.option_words.specs.Words.{word}
use Rattle.option_words.specs.declared.row.Row.{Row}
use Rattle.option_words.specs.declared.reading.Item.{Item}
use Rattle.option_words.specs.declared.fault.UsageFault.{UsageFault}
use Rattle.option_words.specs.declared.fault.UsageFault.TheVariants.{BadValue, Modes, Operands}
use Rattle.option_words.specs.declared.command_error.CommandError.{CommandError}
use Rattle.option_words.specs.Values.{domain_letter, empty_operand, is_given, is_name, last_of, last_value, quiet_letter, word_at}
use Rattle.option_words.specs.Grammar.{Grammar, AreOptionsOf, AskFor, AreRefusedBy, IsAskedWithin, IsErrorBy, unless_empty}
use Rattle.ddrescuelog_words.specs.declared.mode.LogMode.{LogMode}
use Rattle.ddrescuelog_words.specs.declared.options.LogOptions.{LogOptions}
use Rattle.ddrescuelog_words.specs.declared.command.Command.{Command as CommandCode}
use Rattle.ddrescuelog_words.specs.Modes.{creates, has_other, other_letter}
use Rattle.ddrescuelog_words.specs.Options.{ends_beyond, mode_letters, option_meanings, options_in, size_letter}

-- the mapfile's name, what is to be done, the names of the other map and of the domain map, if there are such, and what
-- the options say
pub record Command : Type 0 where
  pub mapfile : List ℕ
  pub mode : LogMode
  pub other : Option (List ℕ)
  pub domain_map : Option (List ℕ)
  pub options : LogOptions

-- the command that the code hands on
abbrev pub told_by : CommandCode → Command
told_by c = record {
  mapfile = c.mapfile.now;
  mode = c.mode;
  other = option_map (λ m. m.now) c.other;
  domain_map = option_map (λ m. m.now) c.domain_map;
  options = c.options;
}

-- how many modes are given; one that is repeated counts once
abbrev pub modes_given : List Item → ℕ
modes_given items = count_by (λ letter. is_given option_meanings letter items) mode_letters

-- the name that the option of a mode gives, if the mode works on another map
abbrev pub other_in : List (List ℕ) → List Item → LogMode → Option (List ℕ)
other_in words items m =
    option_and_then (λ letter. last_value option_meanings words letter items) (other_letter m)

-- one operand names the mapfile; another number is refused
abbrev pub with_operand : List (List ℕ) → List Item → LogOptions → LogMode → (operands : List ℕ)
    → Result Command UsageFault
with_operand words items o m [] = Err (Operands 0)
with_operand words items o m (n ∷ []) =
    Ok (record {
      mapfile = word words n;
      mode = m;
      other = other_in words items m;
      domain_map = last_value option_meanings words domain_letter items;
      options = o;
    })
with_operand words items o m (n ∷ k ∷ more) = Err (Operands (length (n ∷ k ∷ more)))

-- one mode, by its last value; another number is refused, before another number of operands
abbrev pub with_mode : List (List ℕ) → List Item → LogOptions → Option LogMode → (operands : List ℕ)
    → Result Command UsageFault
with_mode words items o None operands = Err (Modes (modes_given items))
with_mode words items o (Some m) operands =
    if nat_eq (modes_given items) 1 then with_operand words items o m operands else Err (Modes (modes_given items))

-- the word in which the value of an option begins, or 0 if there is no option
abbrev pub size_word_by : Option Item → ℕ
size_word_by None = 0
size_word_by (Some i) = word_at i.value

-- the word in which the last value of the size begins
abbrev pub size_word : List Item → ℕ
size_word items = size_word_by (last_of option_meanings size_letter items)

-- a map to be created ends at 2^63 or past
abbrev pub is_too_long : Command → Bool
is_too_long c = creates c.mode && ends_beyond c.options c.options.size

-- unless a map to be created is too long, which is checked after all else
abbrev pub unless_too_long : (size_word : ℕ) → Result Command UsageFault → Result Command UsageFault
unless_too_long n (Err fault) = Err fault
unless_too_long n (Ok c) = if is_too_long c then Err (BadValue n) else Ok c

-- What a reading of the words asks for, or its first fault: a bad value, then the number of modes, then that of
-- operands, then an empty operand, then the end of a map to be created.
abbrev pub command_by : List (List ℕ) → List Item → Result LogOptions ℕ → (operands : List ℕ)
    → Result Command UsageFault
command_by words items (Err n) operands = Err (BadValue n)
command_by words items (Ok o) operands =
    unless_too_long (size_word items)
    (unless_empty (empty_operand words operands) (with_mode words items o o.mode operands))

-- what options and operands that were read from the words ask for, or their first fault
abbrev pub command_in : List (List ℕ) → List Item → (operands : List ℕ) → Result Command UsageFault
command_in words items operands = command_by words items (options_in words items) operands

-- the grammar of `ddrescuelog`
abbrev pub log_grammar : Grammar Command
log_grammar = record { options = option_meanings; quiet = quiet_letter; asked = command_in }

-- rows of a table that are the options of `ddrescuelog`
abbrev pub AreOptions : List Row → Type 0
AreOptions rows = AreOptionsOf log_grammar rows

-- the words ask for this
abbrev pub Asks : List (List ℕ) → Command → Type 0
Asks words c = AskFor log_grammar words c

-- the words are refused for this fault
abbrev pub AreRefused : List (List ℕ) → UsageFault → Type 0
AreRefused words fault = AreRefusedBy log_grammar words fault

-- what is asked for is within limits, and another map has a name exactly when the mode works on one
pub record AreInLimits (c : Command) : Type 0 where
  pub block : 0 < c.options.block
  pub block_max : c.options.block ≤ largest_sector
  pub input_position : c.options.input_position < 2 ^ 63
  pub output_position : IfSome c.options.output_position (λ n. n < 2 ^ 63)
  pub size : IfSome c.options.size (λ n. n < 2 ^ 63)
  pub created : creates c.mode ≡ true → ends_beyond c.options c.options.size ≡ false
  pub other : has_other c.mode ≡ true → is_name c.other ≡ true
  pub no_other : has_other c.mode ≡ false → c.other ≡ None

-- this is what the words ask for, and nothing else; within its limits
abbrev pub IsAsked : List (List ℕ) → Command → Type 0
IsAsked words c = IsAskedWithin log_grammar words c (AreInLimits c) c.options.quiet

-- why words ask for nothing; lack of memory is free
abbrev pub IsErrorOf : List (List ℕ) → CommandError → Type 0
IsErrorOf words error = IsErrorBy log_grammar words error
