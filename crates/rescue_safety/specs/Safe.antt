-- What any stop of a rescue leaves, by what its input and its files tell.
use Rattle.std.specs.Prelude.{◌≡◌, ◌≢◌, ◌⊎◌, ℕ, zero, suc, ◌+◌, ◌<◌, ◌≤◌, nat_eq, true, false, List, [], ◌∷◌, length, take, count_by, All, slice_get, Option, Some, None, if◌then◌else◌}
use Rattle.faulty_source.specs.Journal.{Reading, kept}
use Rattle.crash_site.specs.Files.{File, bytes_of, draft_of}
use Rattle.crash_site.specs.Calls.{Entry}
use Rattle.crash_site.specs.Left.{IsLoose, MayBeLeft}
use Rattle.rescue_rules.specs.Given.{given}
use Rattle.rescue_rules.specs.Stops.{Before, files_before, lost_before, has_barrier, is_write, CouldBefore, LeftBy}
use Rattle.rescue_safety.specs.Saves.{CallsFinished, IsOneSaved}

-- The names of an output and of its mapfile; and the place `to` that the position `from` has in the output.
pub record Target : Type 0 where
  pub outfile : List ℕ
  pub mapfile : List ℕ
  pub from : ℕ
  pub to : ℕ

-- the position x has the place y in the output
abbrev pub HasPlace : Target → (x y : ℕ) → Type 0
HasPlace t x y = y + t.from ≡ x + t.to

-- what a rescue did on its target: what came before, its calls, the bytes of its input, the size of a sector, its reads
pub record Run : Type 0 where
  pub target : Target
  pub past : Before
  pub calls : List Entry
  pub input : List ℕ
  pub sector : ℕ
  pub reads : List Reading

-- The reads up to the one that was written by the last of `writes` writes. A read of which something is kept takes one
-- write, before the next read, and any other read takes none.
abbrev pub reads_until : (sector writes : ℕ) → List Reading → List Reading
reads_until sector writes [] = []
reads_until sector zero (r ∷ rs) = []
reads_until sector (suc n) (r ∷ rs) = r ∷ reads_until sector (if nat_eq (kept sector r) 0 then suc n else n) rs

-- this run with only the reads begun to be written by then: the first k calls have returned, the next is in progress
abbrev pub by_then : Run → (k : ℕ) → Run
by_then r k = record r { reads = reads_until r.sector (count_by is_write (take (k + 1) r.calls)) r.reads }

-- the byte that a run's reads gave the position x last, if they gave one
abbrev pub gives : Run → (x : ℕ) → Option ℕ
gives r x = given r.sector r.reads x

-- the bytes that a run's output had when the run began
abbrev pub bytes_at_first : Run → List ℕ
bytes_at_first r = bytes_of (files_before r.past r.target.outfile)

-- What a stop leaves after the barrier, when the first k calls have returned and the next is in progress:
pub record IsHeld (r : Run) (k : ℕ) (files : List ℕ → Option File) : Type 0 where
  -- The mapfile is the one that was there before, or one that was saved.
  pub mapfile : IsOneSaved (files_before r.past r.target.mapfile) r.calls k (files r.target.mapfile)
  -- Each position that the mapfile found calls finished was called finished before, or a read gave it a byte.
  pub claimed : (x : ℕ) → CallsFinished (files r.target.mapfile) x
      → CallsFinished (files_before r.past r.target.mapfile) x ⊎ ((b : ℕ) × (gives r x ≡ Some b))
  -- Each position that was called finished before is called finished by the mapfile found.
  pub kept : (x : ℕ) → CallsFinished (files_before r.past r.target.mapfile) x → CallsFinished (files r.target.mapfile) x
  -- A position that the mapfile found calls finished, if a read gave it a byte, has a place that holds the last one.
  pub rescued : (x b : ℕ) → CallsFinished (files r.target.mapfile) x → gives r x ≡ Some b
      → (y : ℕ) × HasPlace r.target x y × (slice_get (bytes_of (files r.target.outfile)) y ≡ Some b)
  -- The output has its old byte in each place whose position no read gave one, unless that place was lost before.
  pub stood : (y : ℕ) → y < length (bytes_at_first r) → (IsLoose (lost_before r.past r.target.outfile) y → ⊥)
      → ((x : ℕ) → HasPlace r.target x y → gives r x ≡ None)
      → slice_get (bytes_of (files r.target.outfile)) y ≡ slice_get (bytes_at_first r) y

-- What a stop leaves is safe, when the first k calls have returned and the next is in progress:
pub record IsSafe (r : Run) (k : ℕ) (files : List ℕ → Option File) : Type 0 where
  -- Until the barrier has returned, all files are as they could be before, or an absent output or draft is made, empty.
  pub until_barrier : has_barrier (take k r.calls) ≡ false
      → CouldBefore r.past r.target.outfile (draft_of r.target.mapfile) files
  -- Once the barrier has returned, the mapfile claims only what the output holds.
  pub past_barrier : has_barrier (take k r.calls) ≡ true → IsHeld r k files
  -- Any file except the output, the mapfile and its draft is as it could be found before.
  pub others : (name : List ℕ) → name ≢ r.target.outfile → name ≢ r.target.mapfile
      → name ≢ draft_of r.target.mapfile → (before : List ℕ → Option File)
      × MayBeLeft r.past.start r.past.earlier (length r.past.earlier) before × (files name ≡ before name)

-- the read gave the input's own bytes
abbrev pub IsOwn : (input : List ℕ) → Reading → Type 0
IsOwn input read = (i b : ℕ) → slice_get read.given i ≡ Some b → slice_get input (read.pos + i) ≡ Some b

-- Each read of a rescue gave the input's own bytes; and wherever it is stopped, it is safe by the reads
-- that had begun to be written by then.
pub record IsSafeAnywhere (r : Run) : Type 0 where
  pub own : All (IsOwn r.input) r.reads
  pub safe : (k : ℕ) (files : List ℕ → Option File) → k ≤ length r.calls → LeftBy r.past r.calls k files
      → IsSafe (by_then r k) k files
