-- What may be found at whatever moment `ddrescuelog` is stopped.
use Rattle.std.specs.Prelude.{◌≡◌, ◌≢◌, ◌⊎◌, ℕ, ◌≤◌, true, ◌||◌, T, List, length, Option}
use Rattle.crash_site.specs.Files.{File}
use Rattle.crash_site.specs.Calls.{Entry}
use Rattle.crash_site.specs.SiteState.{SiteState}
use Rattle.mapfile_save.specs.MapNames.{names_of}
use Rattle.mapfile_save.specs.SaveStops.{IsEmptyDraft, LeftAt, CouldBefore}
use Rattle.program_promise.specs.Kinds.{AtCall, Failed}
use Rattle.ddrescuelog_words.specs.declared.mode.LogMode.{LogMode}
use Rattle.ddrescuelog_words.specs.Modes.{creates, removes_map}
use Rattle.ddrescuelog_words.specs.Command.{Command}
use Rattle.ddrescuelog_cli.specs.declared.ending.LogEnding.{LogEnding}
use Rattle.ddrescuelog_cli.specs.declared.ending.LogEnding.TheVariants.{Done}
use Rattle.ddrescuelog_cli.specs.Maps.{Maps}
use Rattle.ddrescuelog_cli.specs.Modes.{Replaces}
use Rattle.ddrescuelog_cli.specs.Answers.{row_of}

-- a mode that changes what is in the place of the mapfile: it makes a mapfile, or removes one
abbrev pub IsChanging : LogMode → Type 0
IsChanging mode = T (creates mode || removes_map mode)

-- a stop of a call, after its first k calls on the files or within the next one, and the files that are found then
pub record StopAt (site : SiteState) (calls : List Entry) (k : ℕ) (files : List ℕ → Option File) : Type 0 where
  pub within : k ≤ length calls
  pub left : LeftAt site calls k files

-- What is found at a stop, by what the mode leaves in the mapfile's place, and by whether it has left that for good:
pub record IsSafe (c : Command) (site : SiteState) (Left : Option File → Type 0) (Over : Type 0)
    (files : List ℕ → Option File) : Type 0 where
  -- under the mapfile's name what could be found there before, or what the mode leaves, whole;
  pub mapfile : CouldBefore site c.mapfile (files c.mapfile) ⊎ Left (files c.mapfile)
  -- once that is for good, only this;
  pub kept : Over → Left (files c.mapfile)
  -- and every file but the mapfile, and the draft of a map that is created, as it could be found before; except that -d
  -- may leave an absent draft empty.
  pub others : (name : List ℕ) → name ≢ c.mapfile → (creates c.mode ≡ true → name ≢ (names_of c.mapfile).draft)
      → CouldBefore site name (files name)
      ⊎ (IsChanging c.mode × IsEmptyDraft site (names_of c.mapfile).draft name (files name))

-- all calls were made, and a mode that changes what is in the mapfile's place is done
pub record IsOver (mode : LogMode) (answer : LogEnding) (calls : List Entry) (k : ℕ) : Type 0 where
  pub changes : IsChanging mode
  pub done : answer ≡ Done
  pub last : k ≡ length calls

-- At whatever moment a call is stopped, between or within its calls on the files, what is found is safe.
abbrev pub StopsSafely : Command → (line list : List ℕ) → Maps → SiteState → List Entry → LogEnding → Type 0
StopsSafely c line list m site calls answer = (k : ℕ) (files : List ℕ → Option File) → StopAt site calls k files
    → IsSafe c site (Replaces c.mode c line list m) (IsOver c.mode answer calls k) files

-- a mode that only reads: of it `StopsSafely` says that everything is found as it could be before
abbrev pub OnlyReads : LogMode → Type 0
OnlyReads mode = IsChanging mode → ⊥

-- Whatever the mode, an answer leaves everything as it was unless the work is done or a call on the files failed.
pub record LeavesFiles (e : LogEnding) : Type 0 where
  pub short : e ≢ Done
  pub kept : (row_of e).kind ≢ Failed AtCall

-- the mode leaves everything as it could be found before, under every name
abbrev pub LeavesAll : SiteState → List Entry → Type 0
LeavesAll site calls = (k : ℕ) (files : List ℕ → Option File) → StopAt site calls k files
    → (name : List ℕ) → CouldBefore site name (files name)
