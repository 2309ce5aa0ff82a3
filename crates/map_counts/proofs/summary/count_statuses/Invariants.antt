use Rattle.std.proofs.Common.{◌≤◌, ◌-◌}
use Rattle.rescue_domain.specs.Parts.{covers}
use Rattle.map_counts.specs.Summary.{has_one}
use Rattle.map_counts.proofs.CountLemmas.{IsCounted}
use Rattle.map_counts.proofs.summary.count_statuses.Given as goal

abbrev pub invariant-loop-at : goal.invariant-loop-at
invariant-loop-at g l = record {
  so_far : IsCounted (has_one (covers l.domain) (g.T.Tiles.statuses l.tiles) l.statuses) l.from l.at l.count l.begun;
  within : l.at - l.from ≤ l.to - l.from;
}

abbrev pub decreases-loop-at : goal.decreases-loop-at
decreases-loop-at g l = l.to - l.at
