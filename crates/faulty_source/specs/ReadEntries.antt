-- What an entry of the list of reads says of a read. For contracts and proofs: no promise uses it.
use Rattle.std.specs.Prelude.{ℕ, ◌+◌, List, length, slice_range}
use Rattle.faulty_source.specs.declared.journal.ReadEntry.{ReadEntry}
use Rattle.faulty_source.specs.Journal.{Reading}

-- what an entry of the list of reads says of a read that gave its bytes
abbrev pub entry_of : Reading → ReadEntry
entry_of r = record { pos = r.pos; asked = r.asked; given = length r.given; ended = r.ended }

-- the read that an entry stands for
abbrev pub reading_of : List ℕ → ReadEntry → Reading
reading_of bytes e =
    record { pos = e.pos; asked = e.asked; given = slice_range bytes e.pos (e.pos + e.given); ended = e.ended }
