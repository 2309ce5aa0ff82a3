-- How a mapfile marks a position, and the reads that asked for it in vain.
use Rattle.std.specs.Prelude.{◌≡◌, ◌≢◌, ℕ, suc, ◌+◌, true, false, List, take, count_by, slice_get, Option, Some}
use Rattle.block_list.specs.declared.status.Status.{Status}
use Rattle.block_list.specs.declared.status.Status.TheVariants.{NonTried}
use Rattle.faulty_source.specs.Journal.{Reading, is_failed, covers}
use Rattle.crash_site.specs.Files.{File}
use Rattle.rescue_rules.specs.MachineLaws.{AsksFor}
use Rattle.rescue_rules.specs.Stops.{is_write}
use Rattle.rescue_safety.specs.Finishes.{Says}
use Rattle.rescue_safety.specs.Safe.{Run, reads_until}

-- A mapfile is there, and marks the position x with this status.
pub record Marks (mapfile : Option File) (status : Status) (x : ℕ) : Type 0 where
  pub there : File
  pub is : mapfile ≡ Some there
  pub says : Says there.bytes status x

-- A mapfile marks the position x as tried: with any other status than non-tried.
abbrev pub MarksTried : (mapfile : Option File) → (x : ℕ) → Type 0
MarksTried mapfile x = (status : Status) × (status ≢ NonTried) × Marks mapfile status x

-- A read asked for x, failed, and nothing of it was kept there.
pub record FailedOf (sector : ℕ) (reads : List Reading) (x : ℕ) : Type 0 where
  pub number : ℕ
  pub read : Reading
  pub is : slice_get reads number ≡ Some read
  pub asks : AsksFor read x
  pub failed : is_failed read ≡ true
  pub lost : covers sector read x ≡ false

-- one of a run's reads did: it asked for x in vain
abbrev pub FailedAt : Run → (x : ℕ) → Type 0
FailedAt r x = FailedOf r.sector r.reads x

-- This run with only the reads that may have been made by then: those up to the next one that is written, when the
-- first k calls have returned and the next is in progress.
abbrev pub may_have_read : Run → (k : ℕ) → Run
may_have_read r k = record r { reads = reads_until r.sector (suc (count_by is_write (take (k + 1) r.calls))) r.reads }
