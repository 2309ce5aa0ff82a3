-- When a block can be added at the end of a map, and why it can't. For contracts and proofs: no promise uses it.
use Rattle.std.specs.Prelude.{ℕ, ◌+◌, ◌-◌, ◌<◌, ◌^◌, List, length, Option, Some, None, nat_lt, nat_le, if◌then◌else◌}
use Rattle.block_list.specs.declared.status.Status.{Status}
use Rattle.plain_blocks.specs.declared.plain_tiles.PushError.{PushError}
use Rattle.plain_blocks.specs.declared.plain_tiles.PushError.TheVariants.{TooLarge, Overlap, Gap}
use Rattle.block_list.specs.Map.{Has}

-- why a block can't be put after a map with this end, in the order in which it is checked
abbrev pub push_fault : (pos size end : ℕ) → Option PushError
push_fault pos size end =
    if nat_le (2 ^ 63) (pos + size) then Some TooLarge
    else if nat_lt pos end then Some (Overlap end)
    else if nat_lt end pos then Some (Gap end)
    else None

-- the map has a last position, and it has this status
pub record EndsWith (map : List Status) (status : Status) : Type 0 where
  pub some : 0 < length map
  pub last : Has map status (length map - 1)
