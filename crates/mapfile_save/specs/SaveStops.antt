-- What a stop within a save may leave.
use Rattle.std.specs.Prelude.{◌≡◌, ◌≢◌, true, ℕ, ◌+◌, ◌≤◌, List, ◌++◌, length, Option, Some, None}
use Rattle.crash_site.specs.Files.{File, empty_file}
use Rattle.crash_site.specs.Calls.{Entry}
use Rattle.crash_site.specs.Disk.{Disk, at_rest, only, synced, disk_after}
use Rattle.crash_site.specs.Left.{MayShow, until, MayBeLeft}
use Rattle.crash_site.specs.SiteState.{SiteState, files_in}
use Rattle.mapfile_save.specs.MapNames.{MapNames}

-- the disk that the calls of a site have made
abbrev pub disk_of : SiteState → Disk
disk_of s = disk_after (at_rest s.start) s.calls

-- a mapfile of this text
abbrev pub text_file : List ℕ → File
text_file text = record { bytes = text; regular = true }

-- The open image is durable as it read, except where it was lost, and nothing else may be found in its place. (Its name
-- is not the mapfile's nor the draft's.)
abbrev pub ImageIsDurable : MapNames → (was now : Disk) → Type 0
ImageIsDurable names was now =
    (image : List ℕ) → was.reads.image ≡ Some image → image ≢ names.map → image ≢ names.draft
    → now.shows image ≡ synced (was.reads.files image) (was.shows image)

-- What is found under a name could be found before, or it is the new text under the mapfile's name, and then the image
-- is durable as it read when the save began.
pub data IsOldOrNew (names : MapNames) (text : List ℕ) (was now : Disk) (name : List ℕ) (found : Option File)
    : Type 0 where
  Old : MayShow (was.shows name) found → IsOldOrNew names text was now name found
  New : name ≡ names.map → found ≡ Some (text_file text) → ImageIsDurable names was now
      → IsOldOrNew names text was now name found

-- At every stop within a save, between or within its calls, each file found is an old one or the new mapfile; the
-- draft's own name may show anything.
abbrev pub StopsInSave : MapNames → List ℕ → (old new : SiteState) → Type 0
StopsInSave names text old new =
    (k : ℕ) (found : List ℕ → Option File) → length old.calls ≤ k → k ≤ length new.calls
    → MayBeLeft new.start new.calls k found
    → (name : List ℕ) → name ≢ names.draft
    → IsOldOrNew names text (disk_of old) (disk_after (at_rest new.start) (until k new.calls)) name (found name)

-- After a save that returned Ok the mapfile is the new text, the open image is durable as it read, and no draft is
-- left; other files read as they did, and nothing else may be found in their place.
pub record IsSaved (names : MapNames) (text : List ℕ) (was now : Disk) : Type 0 where
  pub map_sure : now.shows names.map ≡ only (Some (text_file text))
  pub map_reads : now.reads.files names.map ≡ Some (text_file text)
  pub image : ImageIsDurable names was now
  pub still_open : now.reads.image ≡ was.reads.image
  pub none_begun : now.reads.draft ≡ None
  pub no_draft : names.draft ≢ names.map → now.reads.files names.draft ≡ None
  pub others : (name : List ℕ) → name ≢ names.map → name ≢ names.draft → now.reads.files name ≡ was.reads.files name
  pub no_wider : (name : List ℕ) (found : Option File) → name ≢ names.map → name ≢ names.draft
      → MayShow (now.shows name) found → MayShow (was.shows name) found

-- after the site's calls and the first k of these, a stop before the next one or within it may leave these files
abbrev pub LeftAt : SiteState → List Entry → ℕ → (List ℕ → Option File) → Type 0
LeftAt site calls k files = MayBeLeft site.start (site.calls ++ calls) (length site.calls + k) files

-- a draft that was absent after a site's calls is found empty: a settle of its mapfile may have made it
abbrev pub IsEmptyDraft : SiteState → (draft name : List ℕ) → (found : Option File) → Type 0
IsEmptyDraft site draft name found = (name ≡ draft) × (files_in site name ≡ None) × (found ≡ Some empty_file)

-- a stop after a site's calls, before any further one, could leave this under a name
abbrev pub CouldBefore : SiteState → (name : List ℕ) → (found : Option File) → Type 0
CouldBefore site name found = MayShow ((disk_of site).shows name) found
