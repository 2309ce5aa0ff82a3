-- The lines of a plan.
use Rattle.std.specs.Prelude.{ℕ, List, [], ◌∷◌, ◌++◌, length}
use Rattle.std.specs.List.{flat_map}
use Rattle.std.specs.Fmt.{decimal}
use Rattle.faulty_source.specs.declared.journal.ReadEntry.{ReadEntry}
use Rattle.faulty_source.specs.Journal.{Reading}

-- a read of a plan: where it begins, how many bytes it asks for, and how many it gets
pub record PlannedRead : Type 0 where
  pub pos : ℕ
  pub asked : ℕ
  pub given : ℕ

-- a read, as a plan has it
abbrev pub planned : Reading → PlannedRead
planned r = record { pos = r.pos; asked = r.asked; given = length r.given }

-- the entry of a journal, as a plan has it
abbrev pub planned_entry : ReadEntry → PlannedRead
planned_entry e = record { pos = e.pos; asked = e.asked; given = e.given }

-- the line of a planned read: three numbers in decimal, one space between, and a newline
abbrev pub line_of : PlannedRead → List ℕ
line_of r = decimal r.pos ++ 32 ∷ [] ++ decimal r.asked ++ 32 ∷ [] ++ decimal r.given ++ 10 ∷ []

-- the line of a journal's entry, as that of its planned read
abbrev pub line_of_entry : ReadEntry → List ℕ
line_of_entry e = line_of (planned_entry e)

-- the lines of reads, joined
abbrev pub lines_of : List PlannedRead → List ℕ
lines_of reads = flat_map line_of reads

-- the lines of a journal's entries
abbrev pub lines_of_entries : List ReadEntry → List ℕ
lines_of_entries entries = flat_map line_of_entry entries
