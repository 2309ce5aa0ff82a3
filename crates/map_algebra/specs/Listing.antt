-- The numbers of the blocks in which positions of some types lie.
use Rattle.std.specs.Prelude.{◌≡◌, ℕ, ◌+◌, Bool, true, ◌&&◌, nat_eq, nat_le, List, length, filter}
use Rattle.std.specs.List.{list_any, range_with_len}
use Rattle.block_list.specs.declared.status.Status.{Status}
use Rattle.block_list.specs.declared.types.TypeSet.{TypeSet}
use Rattle.block_list.specs.Types.{has_type}
use Rattle.map_algebra.specs.declared.shape.Shape.{Shape}
use Rattle.map_counts.specs.At.{status_at}
use Rattle.map_algebra.specs.Blocks.{block_of}

-- what is wanted: the positions of the domain that have one of these types, by the blocks in which they lie
pub record Wanted : Type 0 where
  pub domain : ℕ → Bool
  pub types : TypeSet
  pub shape : Shape
  pub statuses : List Status

-- a position of a domain has one of some types
abbrev pub is_typed : TypeSet → (domain : ℕ → Bool) → List Status → ℕ → Bool
is_typed types domain statuses x = domain x && has_type types (status_at statuses x)

-- a position is wanted
abbrev pub has_wanted_type : Wanted → ℕ → Bool
has_wanted_type w x = is_typed w.types w.domain w.statuses x

-- a number is listed if some position of the map is wanted and lies in its block
abbrev pub is_listed : Wanted → ℕ → Bool
is_listed w k =
    list_any (λ x. has_wanted_type w x && nat_eq (block_of w.shape x) k) (range_with_len 0 (length w.statuses))

-- a number is listed, as a fact
abbrev pub IsListed : Wanted → ℕ → Type 0
IsListed w k = is_listed w k ≡ true

-- the numbers that are listed, ascending, each once; none is greater than that of the map's end
abbrev pub listed : Wanted → List ℕ
listed w = filter (is_listed w) (range_with_len 0 (block_of w.shape (length w.statuses) + 1))

-- the numbers that are listed and are this number or greater
abbrev pub listed_from : Wanted → (least : ℕ) → List ℕ
listed_from w least =
    filter (λ k. nat_le least k && is_listed w k) (range_with_len 0 (block_of w.shape (length w.statuses) + 1))

-- how far a listing has come: what it lists, and the least number that may come
pub record ListingState : Type 0 where
  pub types : TypeSet
  pub shape : Shape
  pub least : ℕ

-- what a listing lists of a map and a domain
abbrev pub wanted_of : ListingState → (domain : ℕ → Bool) → List Status → Wanted
wanted_of s domain statuses =
    record { domain = domain; types = s.types; shape = s.shape; statuses = statuses }
