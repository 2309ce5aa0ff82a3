-- The lines that were passed over are comments, so those that are left say what was left to be said.
use Rattle.std.proofs.Common.{◌≡◌, length}
use Rattle.mapfile_reader.specs.Cursor.{no_comments}
use Rattle.mapfile_reader.proofs.lines.FilledLines.first_said.Given as goal

abbrev pub invariant-loop-line : goal.invariant-loop-line
invariant-loop-line l = no_comments l.lines ≡ no_comments l.fn.self

abbrev pub decreases-loop-line : goal.decreases-loop-line
decreases-loop-line l = length l.lines
