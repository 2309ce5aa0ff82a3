use Rattle.std.proofs.Common.{◌≤◌, ◌-◌}
use Rattle.rescue_domain.specs.Parts.{covers}
use Rattle.ddrescueshow_cli.proofs.WalkLemmas.{IsWalked}
use Rattle.ddrescueshow_cli.proofs.cells.worst.Given as goal

abbrev pub invariant-loop-at : goal.invariant-loop-at
invariant-loop-at g l = record {
  walked : IsWalked (covers l.domain) (g.T.Tiles.statuses l.tiles) l.from l.at l.seen;
  within : l.at - l.from ≤ l.to - l.from;
}

abbrev pub decreases-loop-at : goal.decreases-loop-at
decreases-loop-at g l = l.to - l.at
