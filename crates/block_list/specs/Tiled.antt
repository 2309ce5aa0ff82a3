-- What a block list stands for. For contracts and proofs: no promise uses it.
use Rattle.std.specs.Prelude.{ℕ, List, Option, Some, None}
use Rattle.block_list.specs.declared.status.Status.{Status}

-- what a block list stands for: the statuses of its positions, and how many more blocks it has room for
pub record Tiled : Type 0 where
  pub statuses : List Status
  pub spare : ℕ

-- the statuses of tiles, if there are some
abbrev pub statuses_in : Option Tiled → Option (List Status)
statuses_in None = None
statuses_in (Some tiles) = Some tiles.statuses
