-- All lines come to what the lines that are left make of the map so far.
use Rattle.std.proofs.Common.{◌≡◌, length}
use Rattle.mapfile_reader.specs.Cursor.{no_comments}
use Rattle.mapfile_reader.proofs.Progress.{Goes}
use Rattle.mapfile_reader.proofs.read.read_blocks.Given as goal

abbrev pub invariant-loop-line : goal.invariant-loop-line
invariant-loop-line l = record {
  state : l.map.state ≡ l.fn.map.state;
  goes : Goes l.mode (no_comments l.fn.lines) l.map.listed l.map.first l.map.tiles.statuses (no_comments l.lines);
}

abbrev pub decreases-loop-line : goal.decreases-loop-line
decreases-loop-line l = length (no_comments l.lines)
