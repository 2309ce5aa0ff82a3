-- All lines come to what the lines that are left make of the shape so far.
use Rattle.std.proofs.Common.{◌≡◌, length}
use Rattle.mapfile_reader.specs.Cursor.{no_comments}
use Rattle.mapfile_reader.proofs.Progress.{Comes}
use Rattle.mapfile_reader.proofs.check.check_blocks.Given as goal

abbrev pub invariant-loop-line : goal.invariant-loop-line
invariant-loop-line l = record { state : l.shape.state ≡ l.fn.state; comes : Comes l.mode (no_comments l.fn.lines) l.shape (no_comments l.lines) }

abbrev pub decreases-loop-line : goal.decreases-loop-line
decreases-loop-line l = length (no_comments l.lines)
