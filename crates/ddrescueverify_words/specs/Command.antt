-- What the words of `ddrescueverify` ask for, or why they are refused.
use Rattle.std.specs.Prelude.{ℕ, ◌^◌, ◌<◌, ◌≤◌, List, [], ◌∷◌, length, Result, Ok, Err, IfSome}
use Rattle.size_suffixes.specs.Sectors.{largest_sector}
use Rattle.option_words.specs.Words.{word}
use Rattle.option_words.specs.declared.row.Row.{Row}
use Rattle.option_words.specs.declared.reading.Item.{Item}
use Rattle.option_words.specs.declared.fault.UsageFault.{UsageFault}
use Rattle.option_words.specs.declared.fault.UsageFault.TheVariants.{BadValue, Operands}
use Rattle.option_words.specs.declared.command_error.CommandError.{CommandError}
use Rattle.option_words.specs.Values.{empty_operand, quiet_letter}
use Rattle.option_words.specs.Grammar.{Grammar, AreOptionsOf, AskFor, AreRefusedBy, IsAskedWithin, IsErrorBy, unless_empty}
use Rattle.ddrescueverify_words.specs.declared.options.VerifyOptions.{VerifyOptions}
use Rattle.ddrescueverify_words.specs.declared.command.Command.{Command as CommandCode}
use Rattle.ddrescueverify_words.specs.Options.{option_meanings, options_in}

-- the names of the infile, the outfile and the mapfile, and what the options say
pub record Command : Type 0 where
  pub infile : List ℕ
  pub outfile : List ℕ
  pub mapfile : List ℕ
  pub options : VerifyOptions

-- the command that the code hands on
abbrev pub told_by : CommandCode → Command
told_by c = record {
  infile = c.infile.now;
  outfile = c.outfile.now;
  mapfile = c.mapfile.now;
  options = c.options;
}

-- three operands name the files; another number is refused
abbrev pub command_with : List (List ℕ) → VerifyOptions → (operands : List ℕ) → Result Command UsageFault
command_with words o [] = Err (Operands 0)
command_with words o (i ∷ []) = Err (Operands 1)
command_with words o (i ∷ out ∷ []) = Err (Operands 2)
command_with words o (i ∷ out ∷ map ∷ []) =
    Ok (record { infile = word words i; outfile = word words out; mapfile = word words map; options = o })
command_with words o (i ∷ out ∷ map ∷ n ∷ more) = Err (Operands (length (i ∷ out ∷ map ∷ n ∷ more)))

-- What a reading of the words asks for, or its first fault: a bad value, then the number of operands, then an empty
-- one.
abbrev pub command_by : List (List ℕ) → Result VerifyOptions ℕ → (operands : List ℕ) → Result Command UsageFault
command_by words (Err n) operands = Err (BadValue n)
command_by words (Ok o) operands = unless_empty (empty_operand words operands) (command_with words o operands)

-- what options and operands that were read from the words ask for, or their first fault
abbrev pub command_in : List (List ℕ) → List Item → (operands : List ℕ) → Result Command UsageFault
command_in words items operands = command_by words (options_in words items) operands

-- the grammar of `ddrescueverify`
abbrev pub verify_grammar : Grammar Command
verify_grammar = record { options = option_meanings; quiet = quiet_letter; asked = command_in }

-- rows of a table that are the options of `ddrescueverify`
abbrev pub AreOptions : List Row → Type 0
AreOptions rows = AreOptionsOf verify_grammar rows

-- the words ask for this
abbrev pub Asks : List (List ℕ) → Command → Type 0
Asks words c = AskFor verify_grammar words c

-- the words are refused for this fault
abbrev pub AreRefused : List (List ℕ) → UsageFault → Type 0
AreRefused words fault = AreRefusedBy verify_grammar words fault

-- options within their limits
pub record AreInLimits (o : VerifyOptions) : Type 0 where
  pub sector : 0 < o.sector
  pub sector_max : o.sector ≤ largest_sector
  pub input_position : o.input_position < 2 ^ 63
  pub output_position : IfSome o.output_position (λ n. n < 2 ^ 63)

-- this is what the words ask for, and nothing else; with options within their limits
abbrev pub IsAsked : List (List ℕ) → Command → Type 0
IsAsked words c = IsAskedWithin verify_grammar words c (AreInLimits c.options) c.options.quiet

-- why words ask for nothing; lack of memory is free
abbrev pub IsErrorOf : List (List ℕ) → CommandError → Type 0
IsErrorOf words error = IsErrorBy verify_grammar words error
