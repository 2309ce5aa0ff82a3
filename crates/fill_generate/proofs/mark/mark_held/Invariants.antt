use Rattle.std.proofs.Common.{◌+◌, ◌-◌, length}
use Rattle.fill_generate.proofs.MarkLemmas.{Marking}
use Rattle.fill_generate.proofs.mark.mark_held.Given as goal

abbrev pub invariant-loop-at : goal.invariant-loop-at
invariant-loop-at g l =
    Marking l.sector l.pos l.bytes (g.T.Tiles.statuses l.fn.tiles) (g.T.Tiles.statuses l.tiles) (g.T.Tiles.spare l.tiles) l.from l.at

abbrev pub decreases-loop-at : goal.decreases-loop-at
decreases-loop-at g l = l.pos + length l.bytes - l.at
