-- Maps by position.
use Rattle.std.specs.Prelude.{◌≡◌, ℕ, ◌<◌, Bool, true, List, length, map, slice_index_or}
use Rattle.std.specs.List.{range_with_len}
use Rattle.block_list.specs.declared.status.Status.{Status}
use Rattle.block_list.specs.declared.status.Status.TheVariants.{NonTried}

-- the status of a position; what lies past a map's end is non-tried
abbrev pub status_at : List Status → ℕ → Status
status_at statuses x = slice_index_or statuses x NonTried

-- the map of the positions below an end that have these statuses
abbrev pub map_by : (ℕ → Status) → (end : ℕ) → List Status
map_by status end = map status (range_with_len 0 end)

-- each position of the domain lies below the map's end
pub record IsWithinMap (domain : ℕ → Bool) (statuses : List Status) : Type 0 where
  pub each : (x : ℕ) → domain x ≡ true → x < length statuses
