use Rattle.std.proofs.Common.{◌≡◌, ℕ, ◌<◌, ◌-◌, true}
use Rattle.rescue_domain.specs.Finished.{is_finished_at}
use Rattle.rescue_domain.specs.Parts.{covers}
use Rattle.map_algebra.proofs.compare.is_done.Given as goal

abbrev pub invariant-loop-at : goal.invariant-loop-at
invariant-loop-at g l =
    (x : ℕ) → x < l.at → covers l.domain x ≡ true → is_finished_at (g.T.Tiles.statuses l.tiles) x ≡ true

abbrev pub decreases-loop-at : goal.decreases-loop-at
decreases-loop-at g l = l.end - l.at
