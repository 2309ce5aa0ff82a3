-- The sizes of a sector and of a cluster, in bytes.
use Rattle.std.specs.Prelude.{ℕ, ◌<◌, ◌≤◌}

-- no sector is larger than this
abbrev pub largest_sector : ℕ
largest_sector = 1048576

-- no cluster is larger than this
abbrev pub largest_cluster : ℕ
largest_cluster = 16777216

-- a size that a sector may have
pub record IsSector (sector : ℕ) : Type 0 where
  pub low : 0 < sector
  pub high : sector ≤ largest_sector
