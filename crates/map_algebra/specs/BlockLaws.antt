-- What the definitions on blocks mean.
use Rattle.std.specs.Prelude.{◌≡◌, ◌↔◌, ℕ, ◌+◌, ◌<◌, ◌≤◌, Bool, true, false, List, [], ◌∷◌, length, Contains}
use Rattle.std.specs.List.Sorted.{IsStrictlyIncreasing}
use Rattle.block_list.specs.declared.status.Status.{Status}
use Rattle.block_list.specs.declared.status.Status.TheVariants.{NonTried}
use Rattle.block_list.specs.Map.{Has}
use Rattle.block_list.specs.Places.{IsFirst}
use Rattle.map_algebra.specs.declared.shape.Shape.{Shape}
use Rattle.map_algebra.specs.Blocks.{block_of, is_in_block}
use Rattle.map_algebra.specs.Create.{created_map}
use Rattle.map_algebra.specs.Listing.{IsListed, Wanted, has_wanted_type, listed, listed_from}

-- the listed numbers ascend, each once, and are those of the blocks in which some wanted position lies
abbrev pub ListedAre : Type 0
ListedAre =
    (w : Wanted) → IsStrictlyIncreasing (listed w)
    × ((k : ℕ) → Contains (listed w) k
    ↔ ((x : ℕ) × (x < length w.statuses) × (has_wanted_type w x ≡ true) × (block_of w.shape x ≡ k)))

-- Who takes the first listed number from the least one on, and then the first from the number after it, until there is
-- none, has taken the listed numbers.
pub record ListingGoesOn (w : Wanted) : Type 0 where
  pub begins : listed_from w 0 ≡ listed w
  pub goes_on : (least k : ℕ) → IsFirst (IsListed w) least k → listed_from w least ≡ k ∷ listed_from w (k + 1)
  pub ends : (least : ℕ) → ((k : ℕ) → least ≤ k → IsListed w k → ⊥) → listed_from w least ≡ []

-- the listed numbers can be taken one by one, each time the first that is left, whatever is wanted
abbrev pub ListingsGoOn : Type 0
ListingsGoOn = (w : Wanted) → ListingGoesOn w

-- a position at the input position or past it is in one block, and in no other
abbrev pub StandsInOne : Type 0
StandsInOne = (s : Shape) (k x : ℕ) → s.ipos ≤ x → (is_in_block s k x ≡ true) ↔ (k ≡ block_of s x)

-- A created map has each listed block: the positions of the domain that lie in one have the one status, its other
-- positions the other one, and what isn't in the domain is non-tried.
pub record CreatedHas (s : Shape) (ks : List ℕ) (domain : ℕ → Bool) (listed rest : Status) (end : ℕ) : Type 0 where
  pub blocks : (k x : ℕ) → x < end → domain x ≡ true → Contains ks k → is_in_block s k x ≡ true
      → Has (created_map s ks domain listed rest end) listed x
  pub others : (x : ℕ) → x < end → domain x ≡ true → ((k : ℕ) → Contains ks k → is_in_block s k x ≡ true → ⊥)
      → Has (created_map s ks domain listed rest end) rest x
  pub outside : (x : ℕ) → x < end → domain x ≡ false → Has (created_map s ks domain listed rest end) NonTried x
  pub size : length (created_map s ks domain listed rest end) ≡ end

-- in each created map, a position of the domain has one status in a listed block, and the one for the rest elsewhere
abbrev pub CreatedHaveBlocks : Type 0
CreatedHaveBlocks =
    (s : Shape) (ks : List ℕ) (domain : ℕ → Bool) (listed rest : Status) (end : ℕ)
    → CreatedHas s ks domain listed rest end
