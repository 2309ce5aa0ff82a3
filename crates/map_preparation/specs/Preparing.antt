-- How a map is prepared: one status after the other, with the memory for it taken before.
-- For contracts and proofs: no promise uses it.
use Rattle.std.specs.Prelude.{◌≡◌, ◌≢◌, ℕ, zero, suc, ◌+◌, ◌*◌, ◌≤◌, Bool, List, if◌then◌else◌}
use Rattle.block_list.specs.declared.status.Status.{Status}
use Rattle.block_list.specs.Status.{same}
use Rattle.block_list.specs.Places.{IsFirst, IsRangeUp}
use Rattle.rescue_domain.specs.Search.{IsMarked}

-- one status in the place of another
abbrev pub replaced : (from to : Status) → Status → Status
replaced from to status = if same status from then to else status

-- from a place on, the positions that have a property make this number of ranges
abbrev pub HasRanges : (ℕ → Type 0) → (from count : ℕ) → Type 0
HasRanges P from zero = (x : ℕ) → from ≤ x → P x → ⊥
HasRanges P from (suc count) =
    (start : ℕ) × (end : ℕ) × IsFirst P from start × IsRangeUp P start end × HasRanges P end count

-- the positions of a domain whose status is to be replaced by another one make this number of ranges
pub record HasChanges (domain : ℕ → Bool) (map : List Status) (from to : Status) (ranges : ℕ) : Type 0 where
  pub some : from ≢ to → HasRanges (IsMarked domain map from) 0 ranges
  pub none : from ≡ to → ranges ≡ 0

-- there is spare for two blocks more for each range of positions whose status is to be replaced
pub record HasRoom (domain : ℕ → Bool) (map : List Status) (from to : Status) (spare : ℕ) : Type 0 where
  pub ranges : ℕ
  pub changes : HasChanges domain map from to ranges
  pub enough : 2 * ranges ≤ spare

-- this number of blocks, and two more for each range of positions whose status is to be replaced
pub record TakesRoom (domain : ℕ → Bool) (map : List Status) (from to : Status) (others room : ℕ) : Type 0 where
  pub ranges : ℕ
  pub changes : HasChanges domain map from to ranges
  pub total : room ≡ others + 2 * ranges
