-- The files of a command that have the same name.
use Rattle.std.specs.Prelude.{ℕ, List, Option, Some, None, if◌then◌else◌}
use Rattle.std.specs.Str.{bytes_eq}
use Rattle.mapfile_save.specs.MapNames.{MapNames}
use Rattle.program_promise.specs.declared.operand.Operand.{Operand}
use Rattle.program_promise.specs.declared.operand.Operand.TheVariants.{Infile, Outfile, Mapfile, Draft}

-- the first two of an infile, an outfile, a mapfile and its draft that have the same name; the last two never do
abbrev pub first_same : (i o : List ℕ) → MapNames → Option (Operand × Operand)
first_same i o n =
    if bytes_eq i o then Some (Infile, Outfile)
    else if bytes_eq i n.map then Some (Infile, Mapfile)
    else if bytes_eq i n.draft then Some (Infile, Draft)
    else if bytes_eq o n.map then Some (Outfile, Mapfile)
    else if bytes_eq o n.draft then Some (Outfile, Draft)
    else None
