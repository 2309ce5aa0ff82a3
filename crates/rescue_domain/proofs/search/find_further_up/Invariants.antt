use Rattle.std.proofs.Common.{ℕ, ◌-◌, ◌<◌, ◌≤◌, length}
use Rattle.rescue_domain.specs.Live.{lives}
use Rattle.rescue_domain.specs.Search.{IsMarked}
use Rattle.rescue_domain.proofs.search.find_further_up.Given as goal

abbrev pub invariant-loop-part : goal.invariant-loop-part
invariant-loop-part g l =
    (l.from ≤ l.at)
    × ((x : ℕ) → l.from ≤ x → x < l.at → IsMarked (lives l.live) (g.T.Tiles.statuses l.tiles) l.status x → ⊥)

abbrev pub decreases-loop-part : goal.decreases-loop-part
decreases-loop-part g l = length (g.T.Tiles.statuses l.tiles) - l.at
