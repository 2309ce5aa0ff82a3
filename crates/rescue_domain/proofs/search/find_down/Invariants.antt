use Rattle.std.proofs.Common.{ℕ, ◌<◌, ◌≤◌}
use Rattle.rescue_domain.specs.Live.{lives}
use Rattle.rescue_domain.specs.Search.{IsMarked}
use Rattle.rescue_domain.proofs.search.find_down.Given as goal

abbrev pub invariant-loop-part : goal.invariant-loop-part
invariant-loop-part g l =
    (l.at ≤ l.before)
    × ((x : ℕ) → l.at ≤ x → x < l.before → IsMarked (lives l.live) (g.T.Tiles.statuses l.tiles) l.status x → ⊥)

abbrev pub decreases-loop-part : goal.decreases-loop-part
decreases-loop-part g l = l.at
