use Rattle.std.proofs.Common.{◌≡◌, length}
use Rattle.std.specs.Io.KnownBytes.{Keeps}
use Rattle.real_files.proofs.direct.AlignedRoom.read.Given as goal

-- what was refused took nothing
abbrev pub invariant-loop : goal.invariant-loop
invariant-loop g l = (length l.buf ≡ length l.initial.buf)
    × Keeps (g.R.Read.remaining l.initial.reader) (g.R.Read.remaining l.reader)
