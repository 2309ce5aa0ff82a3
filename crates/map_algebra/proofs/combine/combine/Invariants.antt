use Rattle.std.proofs.Common.{◌≡◌, ◌≤◌, ◌-◌, cond}
use Rattle.rescue_domain.specs.Parts.{covers}
use Rattle.map_counts.specs.At.{map_by, status_at}
use Rattle.map_algebra.specs.Combine.{combined}
use Rattle.map_algebra.proofs.combine.combine.Given as goal

abbrev pub invariant-loop-at : goal.invariant-loop-at
invariant-loop-at g l = record {
  so_far : l.out.statuses
      ≡ map_by (λ x. cond (covers l.domain x)
      (combined l.op (status_at (g.T.Tiles.statuses l.first) x) (status_at (g.U.Tiles.statuses l.second) x))
      (status_at (g.T.Tiles.statuses l.first) x)) l.at;
  below : l.at ≤ l.end;
}

abbrev pub decreases-loop-at : goal.decreases-loop-at
decreases-loop-at g l = l.end - l.at
