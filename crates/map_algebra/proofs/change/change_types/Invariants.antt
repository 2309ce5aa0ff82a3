use Rattle.std.proofs.Common.{◌≡◌, ◌≤◌, ◌-◌, cond}
use Rattle.rescue_domain.specs.Parts.{covers}
use Rattle.map_counts.specs.At.{map_by, status_at}
use Rattle.map_algebra.specs.Change.{changed_by}
use Rattle.map_algebra.proofs.change.change_types.Given as goal

abbrev pub invariant-loop-at : goal.invariant-loop-at
invariant-loop-at g l = record {
  so_far : l.out.statuses
      ≡ map_by (λ x. cond (covers l.domain x) (changed_by l.change (status_at (g.T.Tiles.statuses l.tiles) x))
      (status_at (g.T.Tiles.statuses l.tiles) x)) l.at;
  below : l.at ≤ l.end;
}

abbrev pub decreases-loop-at : goal.decreases-loop-at
decreases-loop-at g l = l.end - l.at
