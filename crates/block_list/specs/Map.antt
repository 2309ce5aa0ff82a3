-- A map is the list of the statuses of the positions from 0 up to its end.
use Rattle.std.specs.Prelude.{◌≡◌, ℕ, ◌+◌, ◌-◌, List, ◌++◌, length, take, drop, replicate, slice_get, Some}
use Rattle.block_list.specs.declared.status.Status.{Status}
use Rattle.block_list.specs.declared.status.Status.TheVariants.{NonTried}

-- the position x has the status s
abbrev pub Has : List Status → Status → ℕ → Type 0
Has map s x = slice_get map x ≡ Some s

-- the map after the positions from pos up to pos + size became s
abbrev pub marked : List Status → ℕ → ℕ → Status → List Status
marked map pos size s = take pos map ++ replicate size s ++ drop (pos + size) map

-- the map, followed by non-tried positions up to an end
abbrev pub extended : List Status → ℕ → List Status
extended map end = map ++ replicate (end - length map) NonTried
