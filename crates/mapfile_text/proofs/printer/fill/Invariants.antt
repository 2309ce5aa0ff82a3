use Rattle.std.proofs.Common.{◌≡◌, ◌+◌, ◌-◌, ◌≤◌, ◌++◌, length}
use Rattle.mapfile_text.specs.LeftOf.{parts_from, left_of}
use Rattle.mapfile_text.proofs.printer.fill.Given as goal

-- the piece so far and what is left are what was left
abbrev pub invariant-loop-state : goal.invariant-loop-state
invariant-loop-state g l = record {
  fits : length l.out.items ≤ 4096;
  all : l.out.items ++ left_of l.place l.heading l.state (g.T.Tiles.statuses l.tiles) ≡ left_of l.fn.begun l.heading l.state (g.T.Tiles.statuses l.tiles);
}

-- the parts and the room that are left
abbrev pub decreases-loop-state : goal.decreases-loop-state
decreases-loop-state g l =
    length (parts_from l.place.part l.heading l.state (g.T.Tiles.statuses l.tiles)) + (4096 - length l.out.items)
