-- The names of a rescue's files, and the program's own.
use Rattle.std.specs.Prelude.{◌≡◌, ℕ, false, List, Option, Some, None, if◌then◌else◌, codes}
use Rattle.std.specs.Str.{bytes_eq}
use Rattle.mapfile_save.specs.MapNames.{MapNames}
use Rattle.program_promise.specs.declared.operand.Operand.{Operand}
use Rattle.program_promise.specs.declared.operand.Operand.TheVariants.{Infile, Outfile}
use Rattle.program_promise.specs.Operands.{first_same}

-- the first two of an infile and an outfile, and of a mapfile and its draft if there is one, that have the same name
abbrev pub first_same_with_optional_map : (i o : List ℕ) → Option MapNames → Option (Operand × Operand)
first_same_with_optional_map i o None = if bytes_eq i o then Some (Infile, Outfile) else None
first_same_with_optional_map i o (Some n) = first_same i o n

-- an outfile has another name than a mapfile and its draft
abbrev pub AreNamedApart : (outfile : List ℕ) → Option MapNames → Type 0
AreNamedApart outfile None = Unit {0}
AreNamedApart outfile (Some n) = (bytes_eq outfile n.map ≡ false) × (bytes_eq outfile n.draft ≡ false)

-- the program's name, which begins its command line and its messages
abbrev pub program_name : List ℕ
program_name = codes "ddrescue"
