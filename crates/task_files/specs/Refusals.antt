-- The refusals, one a row.
use Rattle.std.specs.Prelude.{◌≡◌, ◌≢◌, ◌⊎◌, ℕ, Bool, true, false, not, Option, Some, None}
use Rattle.mapfile_text.specs.declared.read.Mode.{Mode}
use Rattle.mapfile_text.specs.declared.read.Mode.TheVariants.{Tight}
use Rattle.mapfile_text.specs.declared.read.MapError.{MapError}
use Rattle.mapfile_text.specs.declared.read.MapError.TheVariants.{NoStatusLine}
use Rattle.crash_site.specs.Files.{File}
use Rattle.mapfile_resume.specs.Resuming.{IsRefusedFor}
use Rattle.option_words.specs.declared.fault.UsageFault.TheVariants.{PlaceTooLarge}
use Rattle.program_promise.specs.declared.operand.Operand.{Operand}
use Rattle.task_files.specs.declared.ending.Which.{Which}
use Rattle.task_files.specs.declared.ending.Which.TheVariants.{RunMap}
use Rattle.task_files.specs.declared.ending.Ending.{Ending}
use Rattle.task_files.specs.declared.ending.Ending.TheVariants.{Usage, SameName, NoMap, NotRegular, MapRefused, EmptyPattern, NoOutput}
use Rattle.ddrescue_words.specs.declared.options.Options.{Options}
use Rattle.ddrescue_words.specs.Command.{Command}
use Rattle.task_files.specs.Names.{first_same_with_optional_map}
use Rattle.task_files.specs.Asked.{names_by, IsBeyond}

-- two files have the same name
abbrev pub NamesRefused : Command → Ending → Type 0
NamesRefused c e =
    (first second : Operand) × (first_same_with_optional_map c.infile c.outfile (names_by c) ≡ Some (first, second))
    × (e ≡ SameName first second)

-- a map that an option names isn't there, or is no map, or is too long
abbrev pub NamedMapRefused : Which → Mode → (file : Option File) → Ending → Type 0
NamedMapRefused which mode file e =
    ((file ≡ None) × (e ≡ NoMap which))
    ⊎ ((error : MapError) × IsRefusedFor file mode error × (e ≡ MapRefused which error))

-- the pattern to fill with is empty
abbrev pub PatternEmpty : (end : ℕ) → Ending → Type 0
PatternEmpty end e = (end ≡ 0) × (e ≡ EmptyPattern)

-- the outfile isn't there, and isn't made
abbrev pub OutputMissing : (output : Option File) → Ending → Type 0
OutputMissing output e = (output ≡ None) × (e ≡ NoOutput)

-- something is there that is no regular file
abbrev pub is_other : Option File → Bool
is_other None = false
is_other (Some f) = not f.regular

-- the outfile is there and is no regular file, and isn't forced
abbrev pub OutputRefused : (forced : Bool) → (output : Option File) → Ending → Type 0
OutputRefused forced output e = (forced ≡ false) × (is_other output ≡ true) × (e ≡ NotRegular)

-- the mapfile says something, and is no map; or it is too long
abbrev pub MapfileRefused : (mapfile : Option File) → Ending → Type 0
MapfileRefused mapfile e =
    (error : MapError) × IsRefusedFor mapfile Tight error × (error ≢ NoStatusLine) × (e ≡ MapRefused RunMap error)

-- a position that is asked for would end too far on in the output, whatever maps leave of it
abbrev pub PlacesRefused : Options → (end : ℕ) → Ending → Type 0
PlacesRefused o end e = IsBeyond o end × (e ≡ Usage PlaceTooLarge)
