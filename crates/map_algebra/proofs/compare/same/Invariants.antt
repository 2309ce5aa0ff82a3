use Rattle.std.proofs.Common.{◌≡◌, ℕ, ◌<◌, ◌-◌, true}
use Rattle.rescue_domain.specs.Parts.{covers}
use Rattle.map_counts.specs.At.{status_at}
use Rattle.map_algebra.proofs.compare.same.Given as goal

abbrev pub invariant-loop-at : goal.invariant-loop-at
invariant-loop-at g l = (x : ℕ) → x < l.at → covers l.domain x ≡ true
    → status_at (g.T.Tiles.statuses l.first) x ≡ status_at (g.U.Tiles.statuses l.second) x

abbrev pub decreases-loop-at : goal.decreases-loop-at
decreases-loop-at g l = l.end - l.at
