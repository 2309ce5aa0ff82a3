use Rattle.std.proofs.Common.{◌-◌, length}
use Rattle.rescue_domain.specs.Parts.{covers}
use Rattle.rescue_domain.proofs.FinishedLemmas.{IsClear}
use Rattle.rescue_domain.proofs.domain.next_finished.Given as goal

abbrev pub invariant-loop-part : goal.invariant-loop-part
invariant-loop-part g l = IsClear (covers l.domain) (g.T.Tiles.statuses l.tiles) l.from l.at

abbrev pub decreases-loop-part : goal.decreases-loop-part
decreases-loop-part g l = length (g.T.Tiles.statuses l.tiles) - l.at
