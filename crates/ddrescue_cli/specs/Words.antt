-- Which answers a task may have by its words.
use Rattle.std.specs.Prelude.{◌≡◌, ◌≢◌, ◌⊎◌, Option, Some, None}
use Rattle.ddrescue_words.specs.Command.{Command, Task, Rescue, Fill, Generate, Sample}
use Rattle.program_promise.specs.declared.operand.Operand.{Operand}
use Rattle.task_files.specs.declared.ending.Ending.{Ending}
use Rattle.task_files.specs.declared.ending.Ending.TheVariants.{Done, SameName, NoMemory}
use Rattle.task_files.specs.Names.{first_same_with_optional_map}
use Rattle.task_files.specs.Asked.{names_by}

-- the first two files of a command that have the same name, in the order infile, outfile, mapfile, draft
abbrev pub same_of : Command → Option (Operand × Operand)
same_of c = first_same_with_optional_map c.infile c.outfile (names_by c)

-- Two files with the same name are answered, the first such pair, unless memory runs out before; and no others are.
abbrev pub FitsNames : Option (Operand × Operand) → Ending → Type 0
FitsNames None e = (first second : Operand) → e ≢ SameName first second
FitsNames (Some pair) e = (e ≡ SameName pair.0 pair.1) ⊎ (e ≡ NoMemory)

-- A sample is done, or there is no memory.
abbrev pub FitsTask : Task → Ending → Type 0
FitsTask (Rescue c) e = FitsNames (same_of c) e
FitsTask (Fill types c) e = FitsNames (same_of c) e
FitsTask (Generate c) e = FitsNames (same_of c) e
FitsTask (Sample kib quiet) e = (e ≡ Done) ⊎ (e ≡ NoMemory)
