-- The lines that were passed over are blank, so the rest has the lines that were left.
use Rattle.std.proofs.Common.{◌≡◌, ◌+◌, ◌<◌, ◌^◌, length}
use Rattle.mapfile_reader.specs.Cursor.{filled_from}
use Rattle.mapfile_reader.proofs.lines.FilledLines.first.Given as goal

abbrev pub invariant-loop-rest : goal.invariant-loop-rest
invariant-loop-rest l = record { lines : filled_from l.number l.rest ≡ l.fn.self; few : l.number + length l.rest < 2 ^ 64 }

abbrev pub decreases-loop-rest : goal.decreases-loop-rest
decreases-loop-rest l = length l.rest
