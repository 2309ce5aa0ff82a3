use Rattle.std.proofs.Common.{ℕ, ◌-◌, ◌<◌, ◌≤◌, length}
use Rattle.rescue_domain.specs.Parts.{covers}
use Rattle.fill_generate.specs.Modes.{IsTakenIn}
use Rattle.fill_generate.proofs.search.first_taken.Given as goal

abbrev pub invariant-loop-at : goal.invariant-loop-at
invariant-loop-at g l =
    (l.from ≤ l.at)
    × ((x : ℕ) → l.from ≤ x → x < l.at → IsTakenIn l.mode (covers l.domain) (g.T.Tiles.statuses l.tiles) x → ⊥)

abbrev pub decreases-loop-at : goal.decreases-loop-at
decreases-loop-at g l = length (g.T.Tiles.statuses l.tiles) - l.at
