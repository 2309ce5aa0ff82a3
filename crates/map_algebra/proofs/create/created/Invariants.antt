-- What is made so far is the map up to there.
use Rattle.std.proofs.Common.{◌≡◌, ◌≤◌, ◌-◌}
use Rattle.rescue_domain.specs.Parts.{covers}
use Rattle.map_counts.specs.At.{map_by, status_at}
use Rattle.map_algebra.specs.Create.{at_mark}
use Rattle.map_algebra.proofs.create.created.Given as goal

abbrev pub invariant-loop-at : goal.invariant-loop-at
invariant-loop-at l = record {
  so_far : l.map.statuses
      ≡ map_by (λ x. at_mark (status_at l.marks.statuses x) (covers l.domain x) l.listed l.rest) l.at;
  below : l.at ≤ l.end;
}

abbrev pub decreases-loop-at : goal.decreases-loop-at
decreases-loop-at l = l.end - l.at
