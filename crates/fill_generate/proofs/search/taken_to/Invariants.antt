use Rattle.std.proofs.Common.{ℕ, ◌-◌, ◌<◌, ◌≤◌, length}
use Rattle.rescue_domain.specs.Parts.{covers}
use Rattle.fill_generate.specs.Modes.{IsTakenIn}
use Rattle.fill_generate.proofs.search.taken_to.Given as goal

abbrev pub invariant-loop-at : goal.invariant-loop-at
invariant-loop-at g l =
    (l.from ≤ l.at)
    × ((y : ℕ) → l.from ≤ y → y < l.at → IsTakenIn l.mode (covers l.domain) (g.T.Tiles.statuses l.tiles) y)

abbrev pub decreases-loop-at : goal.decreases-loop-at
decreases-loop-at g l = length (g.T.Tiles.statuses l.tiles) - l.at
