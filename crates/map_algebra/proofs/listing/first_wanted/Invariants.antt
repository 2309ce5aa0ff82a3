-- No position in front of this one is wanted.
use Rattle.std.proofs.Common.{ℕ, ◌-◌, ◌<◌, ◌≤◌}
use Rattle.rescue_domain.specs.Domain.{IsIn}
use Rattle.rescue_domain.specs.Parts.{covers}
use Rattle.map_algebra.specs.Listing.{is_typed}
use Rattle.map_algebra.proofs.listing.first_wanted.Given as goal

abbrev pub invariant-loop-at : goal.invariant-loop-at
invariant-loop-at g l = record {
  begun : l.fn.from ≤ l.at;
  none : (x : ℕ) → l.fn.from ≤ x → x < l.at
      → IsIn (is_typed l.types (covers l.domain) (g.T.Tiles.statuses l.tiles)) x → ⊥;
}

abbrev pub decreases-loop-at : goal.decreases-loop-at
decreases-loop-at g l = l.end - l.at
