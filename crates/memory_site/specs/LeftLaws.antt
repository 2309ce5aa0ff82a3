-- What the files mean that a stop of each kind leaves.
use Rattle.std.specs.Prelude.{◌≡◌, ◌⊎◌, ⊤, ℕ, ◌<◌, ◌≤◌, IsTrue, List, [], ◌∷◌, ◌++◌, length, take, drop, slice_index_or, Option, Some, None}
use Rattle.memory_site.specs.declared.memory.stop.Left.{Left}
use Rattle.memory_site.specs.declared.memory.stop.Left.TheVariants.{Oldest, Newest, Garbage}
use Rattle.crash_site.specs.Files.{File, bytes_of}
use Rattle.crash_site.specs.Calls.{Entry, Done}
use Rattle.crash_site.specs.CallsMade.{AllDone}
use Rattle.crash_site.specs.Changes.{call_in}
use Rattle.crash_site.specs.Folder.{Folder, after}
use Rattle.crash_site.specs.Disk.{Version, Showing, Disk, at_rest, disk_after}
use Rattle.crash_site.specs.Left.{IsLoose, MatchesFile, MayBeLeft, until}
use Rattle.memory_site.specs.FilesLeft.{any_byte, files_left}
use Rattle.memory_site.specs.Unsynced.{unsynced_at}

-- A stop of each kind leaves files that a stop may leave.
abbrev pub KindsMayBeLeft : Type 0
KindsMayBeLeft = (kind : Left) (start : Folder) (calls : List Entry) (k : ℕ)
    → MayBeLeft start calls k (files_left kind start calls k)

-- what was durable
abbrev pub durable_files : Disk → List ℕ → Option File
durable_files d n = (d.shows n).durable.file

-- Oldest leaves what was durable after the first k calls, and nothing else.
abbrev pub OldestIsDurable : Type 0
OldestIsDurable = (start : Folder) (calls : List Entry) (k : ℕ) (n : List ℕ)
    → files_left Oldest start calls k n ≡ durable_files (disk_after (at_rest start) (take k calls)) n

-- the first of these calls, if there is one, returned Ok
abbrev pub completed : List Entry → List Entry
completed [] = []
completed (e ∷ es) = Done (call_in e) ∷ []

-- Newest leaves what reads after the next call, if none of the first k failed.
abbrev pub NewestIsMade : Type 0
NewestIsMade = (start : Folder) (calls : List Entry) (k : ℕ) (n : List ℕ) → AllDone (take k calls)
    → files_left Newest start calls k n ≡ (after start (take k calls ++ completed (drop k calls))).files n

-- a file with other bytes in these ranges, and in them alone
pub record HasSpoilt (was : File) (ranges : List (ℕ × ℕ)) (found : File) : Type 0 where
  pub size : length found.bytes ≡ length was.bytes
  pub other : (x : ℕ) → x < length was.bytes → IsLoose ranges x → slice_index_or found.bytes x 0 ≡ any_byte
  pub same : (x : ℕ) → x < length was.bytes → (IsLoose ranges x → ⊥)
      → slice_index_or found.bytes x 0 ≡ slice_index_or was.bytes x 0
  pub regular : IsTrue was.regular → IsTrue found.regular

-- a file, if there is one, with other bytes in these ranges, and in them alone
abbrev pub IsSpoilt : Option File → List (ℕ × ℕ) → Option File → Type 0
IsSpoilt None ranges None = ⊤
IsSpoilt None ranges (Some found) = ⊥
IsSpoilt (Some was) ranges None = ⊥
IsSpoilt (Some was) ranges (Some found) = HasSpoilt was ranges found

-- Garbage leaves other bytes in each range that isn't synced, and elsewhere what Newest leaves.
abbrev pub GarbageIsUnsynced : Type 0
GarbageIsUnsynced = (start : Folder) (calls : List Entry) (k : ℕ) (n : List ℕ)
    → IsSpoilt (files_left Newest start calls k n) (unsynced_at start calls k n) (files_left Garbage start calls k n)

-- x isn't sure in a version: it lies in a range that was written, or past the version's end
abbrev pub IsUnsure : Version → ℕ → Type 0
IsUnsure v x = IsLoose v.loose x ⊎ (length (bytes_of v.file) ≤ x)

-- a file is found that is this version except for what isn't sure, and these ranges are what isn't sure in it
pub record IsUnsyncedOf (v : Version) (was : Option File) (ranges : List (ℕ × ℕ)) : Type 0 where
  pub matches : MatchesFile v.file v.loose was
  pub all : (x : ℕ) → x < length (bytes_of was) → IsUnsure v x → IsLoose ranges x
  pub alone : (x : ℕ) → x < length (bytes_of was) → IsLoose ranges x → IsUnsure v x

-- a file is found that is one of these versions except for what isn't sure, and these ranges are what isn't sure in it
abbrev pub IsUnsyncedOfOne : List Version → Option File → List (ℕ × ℕ) → Type 0
IsUnsyncedOfOne [] was ranges = ⊥
IsUnsyncedOfOne (v ∷ vs) was ranges = IsUnsyncedOf v was ranges ⊎ IsUnsyncedOfOne vs was ranges

-- these ranges are the whole of a file
abbrev pub IsWholeUnsynced : Option File → List (ℕ × ℕ) → Type 0
IsWholeUnsynced was ranges = (x : ℕ) → x < length (bytes_of was) → IsLoose ranges x

-- What a stop may show decides which ranges of a file aren't synced: those of the version found, or all of a text in
-- whose place any may be. A name under which a draft was kept may show anything.
abbrev pub MayBeUnsynced : Showing → Option File → List (ℕ × ℕ) → Type 0
MayBeUnsynced s was ranges = IsTrue s.anything
    ⊎ ((IsTrue s.any_text × IsWholeUnsynced was ranges) ⊎ IsUnsyncedOfOne (s.durable ∷ s.since) was ranges)

-- The ranges that aren't synced are those that a stop leaves loose.
abbrev pub UnsyncedIsLoose : Type 0
UnsyncedIsLoose = (start : Folder) (calls : List Entry) (k : ℕ) (n : List ℕ)
    → MayBeUnsynced ((disk_after (at_rest start) (until k calls)).shows n) (files_left Newest start calls k n)
    (unsynced_at start calls k n)
