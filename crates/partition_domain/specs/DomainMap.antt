-- The map of a partition, which a rescue takes as its domain.
use Rattle.std.specs.Prelude.{ℕ, ◌+◌, ◌-◌, ◌*◌, List, ◌++◌, replicate}
use Rattle.block_list.specs.declared.status.Status.{Status}
use Rattle.block_list.specs.declared.status.Status.TheVariants.{NonTried, Finished as FinishedPosition}
use Rattle.mapfile_text.specs.declared.heading.Program.TheVariants.{Ddrescuelog}
use Rattle.mapfile_text.specs.declared.state.Current.TheVariants.{Finished}
use Rattle.mapfile_text.specs.declared.state.MapState.{MapState}
use Rattle.mapfile_text.specs.Printed.{printed}
use Rattle.partition_domain.specs.declared.table.Partition.{Partition}
use Rattle.partition_domain.specs.Table.{sector_size}

-- where a partition begins, in bytes
abbrev pub start_of : Partition → ℕ
start_of p = p.first * sector_size

-- how many bytes a partition has
abbrev pub size_of : Partition → ℕ
size_of p = p.count * sector_size

-- what lies in the partition is finished, and all else non-tried, up to the partition's end or, if that is greater,
-- that of an input with a length
abbrev pub domain_map : (length : ℕ) → Partition → List Status
domain_map length p =
    replicate (start_of p) NonTried ++ replicate (size_of p) FinishedPosition
    ++ replicate (length - (start_of p + size_of p)) NonTried

-- the map's state: it shows the first position and nothing left to do
abbrev pub shown_state : MapState
shown_state = record { pos = 0; current = Finished; pass = 1 }

-- the map's text, under a heading with a command line
abbrev pub domain_text : (line : List ℕ) → (length : ℕ) → Partition → List ℕ
domain_text line length p =
    printed (record { program = Ddrescuelog; line = line; start_s = 0; now_s = 0 }) shown_state (domain_map length p)
