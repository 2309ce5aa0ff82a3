-- The refusals, one a row.
use Rattle.std.specs.Prelude.{◌≡◌, ◌≢◌, ◌⊎◌, ℕ, List, Option, Some, None}
use Rattle.mapfile_text.specs.declared.read.Mode.TheVariants.{Tight}
use Rattle.mapfile_text.specs.declared.read.MapError.{MapError}
use Rattle.mapfile_text.specs.declared.read.MapError.TheVariants.{NoStatusLine}
use Rattle.crash_site.specs.Files.{File}
use Rattle.mapfile_save.specs.MapNames.{names_of}
use Rattle.mapfile_resume.specs.Resuming.{IsLikeNone, IsRefusedFor}
use Rattle.option_words.specs.declared.fault.UsageFault.TheVariants.{PlaceTooLarge}
use Rattle.ddrescueverify_words.specs.declared.options.VerifyOptions.{VerifyOptions}
use Rattle.ddrescueverify_words.specs.Command.{Command, Asks}
use Rattle.program_promise.specs.declared.operand.Operand.{Operand}
use Rattle.ddrescueverify_cli.specs.declared.ending.Which.TheVariants.{RunMap}
use Rattle.ddrescueverify_cli.specs.declared.ending.VerifyEnding.{VerifyEnding}
use Rattle.ddrescueverify_cli.specs.declared.ending.VerifyEnding.TheVariants.{Usage, SameName, NoMap, NoOutput, MapRefused, NoMemory}
use Rattle.ddrescueverify_cli.specs.Asked.{IsBeyond}
use Rattle.program_promise.specs.Operands.{first_same}

-- the first two files of a command that have the same name, in the order infile, outfile, mapfile, draft
abbrev pub same_of : Command → Option (Operand × Operand)
same_of c = first_same c.infile c.outfile (names_of c.mapfile)

-- two files have the same name
abbrev pub NamesRefused : Command → VerifyEnding → Type 0
NamesRefused c e =
    (first second : Operand) × (same_of c ≡ Some (first, second)) × (e ≡ SameName first second)

-- the outfile isn't there
abbrev pub OutputRefused : (output : Option File) → VerifyEnding → Type 0
OutputRefused output e = (output ≡ None) × (e ≡ NoOutput)

-- the mapfile isn't there or says nothing; or it says something and is no map, or is too long
abbrev pub MapfileRefused : (mapfile : Option File) → VerifyEnding → Type 0
MapfileRefused mapfile e =
    (IsLikeNone mapfile × (e ≡ NoMap))
    ⊎ ((error : MapError) × IsRefusedFor mapfile Tight error × (error ≢ NoStatusLine) × (e ≡ MapRefused RunMap error))

-- a position that is asked for would end too far into the output, whatever the mapfile says of it
abbrev pub PlacesRefused : VerifyOptions → (end : ℕ) → VerifyEnding → Type 0
PlacesRefused o end e = IsBeyond o end × (e ≡ Usage PlaceTooLarge)

-- ---- what an answer says of the names

-- Two files with the same name are answered, the first such pair, unless memory runs out before; and no others are.
abbrev pub FitsNames : Option (Operand × Operand) → VerifyEnding → Type 0
FitsNames None e = (first second : Operand) → e ≢ SameName first second
FitsNames (Some pair) e = (e ≡ SameName pair.0 pair.1) ⊎ (e ≡ NoMemory)

-- the words name two files with the same name, the first such pair
pub record NameOneFileTwice (words : List (List ℕ)) (first second : Operand) : Type 0 where
  pub command : Command
  pub asks : Asks words command
  pub same : same_of command ≡ Some (first, second)
