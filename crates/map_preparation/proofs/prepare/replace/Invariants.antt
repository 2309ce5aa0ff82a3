use Rattle.std.proofs.Common.{◌-◌, length}
use Rattle.rescue_domain.specs.Parts.{covers}
use Rattle.rescue_rules.specs.Preparation.{IsChanged}
use Rattle.map_preparation.specs.Preparing.{replaced}
use Rattle.map_preparation.proofs.PrepareLemmas.{below}
use Rattle.map_preparation.proofs.RoomLemmas.{Spends}
use Rattle.map_preparation.proofs.prepare.replace.Given as goal

abbrev pub invariant-loop-range : goal.invariant-loop-range
invariant-loop-range g l =
    IsChanged (below (covers l.domain) l.at) (replaced l.from l.to) (g.T.Tiles.statuses l.fn.tiles) (g.T.Tiles.statuses l.tiles)
    × Spends (covers l.domain) (g.T.Tiles.statuses l.fn.tiles) l.from l.at (g.T.Tiles.spare l.fn.tiles) (g.T.Tiles.spare l.tiles)

abbrev pub decreases-loop-range : goal.decreases-loop-range
decreases-loop-range g l = length (g.T.Tiles.statuses l.tiles) - l.at
