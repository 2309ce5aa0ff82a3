use Rattle.std.proofs.Common.{◌-◌, length}
use Rattle.rescue_domain.specs.Parts.{covers}
use Rattle.map_preparation.proofs.RoomLemmas.{Counted}
use Rattle.map_preparation.proofs.prepare.room_after.Given as goal

abbrev pub invariant-loop-range : goal.invariant-loop-range
invariant-loop-range g l = Counted (covers l.domain) (g.T.Tiles.statuses l.tiles) l.from l.at l.others l.room

abbrev pub decreases-loop-range : goal.decreases-loop-range
decreases-loop-range g l = length (g.T.Tiles.statuses l.tiles) - l.at
