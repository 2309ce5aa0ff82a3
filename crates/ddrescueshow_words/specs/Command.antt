-- What the words of `ddrescueshow` ask for, or why they are refused.
use Rattle.std.specs.Prelude.{ℕ, ◌^◌, ◌<◌, ◌≤◌, List, [], ◌∷◌, length, Option, option_map, Result, Ok, Err}
use Rattle.size_suffixes.specs.Sectors.{largest_sector}
use Rattle.option_words.specs.Words.{word}
use Rattle.option_words.specs.declared.row.Row.{Row}
use Rattle.option_words.specs.declared.reading.Item.{Item}
use Rattle.option_words.specs.declared.fault.UsageFault.{UsageFault}
use Rattle.option_words.specs.declared.fault.UsageFault.TheVariants.{BadValue, Operands}
use Rattle.option_words.specs.declared.command_error.CommandError.{CommandError}
use Rattle.option_words.specs.Values.{domain_letter, empty_operand, last_value, quiet_letter}
use Rattle.option_words.specs.Grammar.{Grammar, AreOptionsOf, AskFor, AreRefusedBy, IsAskedWithin, IsErrorBy, unless_empty}
use Rattle.ddrescueshow_words.specs.declared.options.ShowOptions.{ShowOptions}
use Rattle.ddrescueshow_words.specs.declared.command.Command.{Command as CommandCode}
use Rattle.ddrescueshow_words.specs.Options.{option_meanings, options_in}

-- the names of the mapfile and of the domain map, if one is named, and what the options say
pub record Command : Type 0 where
  pub mapfile : List ℕ
  pub domain_map : Option (List ℕ)
  pub options : ShowOptions

-- the command that the code hands on
abbrev pub told_by : CommandCode → Command
told_by c = record {
  mapfile = c.mapfile.now;
  domain_map = option_map (λ m. m.now) c.domain_map;
  options = c.options;
}

-- one operand names the mapfile; another number is refused
abbrev pub command_with : List (List ℕ) → List Item → ShowOptions → (operands : List ℕ) → Result Command UsageFault
command_with words items o [] = Err (Operands 0)
command_with words items o (n ∷ []) =
    Ok (record {
      mapfile = word words n;
      domain_map = last_value option_meanings words domain_letter items;
      options = o;
    })
command_with words items o (n ∷ k ∷ more) = Err (Operands (length (n ∷ k ∷ more)))

-- What a reading of the words asks for, or its first fault: a bad value, then the number of operands, then an empty
-- one.
abbrev pub command_by : List (List ℕ) → List Item → Result ShowOptions ℕ → (operands : List ℕ)
    → Result Command UsageFault
command_by words items (Err n) operands = Err (BadValue n)
command_by words items (Ok o) operands =
    unless_empty (empty_operand words operands) (command_with words items o operands)

-- what options and operands that were read from the words ask for, or their first fault
abbrev pub command_in : List (List ℕ) → List Item → (operands : List ℕ) → Result Command UsageFault
command_in words items operands = command_by words items (options_in words items) operands

-- the grammar of `ddrescueshow`
abbrev pub show_grammar : Grammar Command
show_grammar = record { options = option_meanings; quiet = quiet_letter; asked = command_in }

-- rows of a table that are the options of `ddrescueshow`
abbrev pub AreOptions : List Row → Type 0
AreOptions rows = AreOptionsOf show_grammar rows

-- the words ask for this
abbrev pub Asks : List (List ℕ) → Command → Type 0
Asks words c = AskFor show_grammar words c

-- the words are refused for this fault
abbrev pub AreRefused : List (List ℕ) → UsageFault → Type 0
AreRefused words fault = AreRefusedBy show_grammar words fault

-- options within their limits
pub record AreInLimits (o : ShowOptions) : Type 0 where
  pub sector : 0 < o.sector
  pub sector_max : o.sector ≤ largest_sector
  pub input_position : o.input_position < 2 ^ 63
  pub width : 0 < o.width
  pub width_max : o.width ≤ 1000
  pub rows : 0 < o.rows
  pub rows_max : o.rows ≤ 1000

-- this is what the words ask for, and nothing else; with options within their limits
abbrev pub IsAsked : List (List ℕ) → Command → Type 0
IsAsked words c = IsAskedWithin show_grammar words c (AreInLimits c.options) c.options.quiet

-- why words ask for nothing; lack of memory is free
abbrev pub IsErrorOf : List (List ℕ) → CommandError → Type 0
IsErrorOf words error = IsErrorBy show_grammar words error
