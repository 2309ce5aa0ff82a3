-- What the steps of `ddrescuelog` did, by what the objects tell. For contracts and proofs: no promise uses it.
use Rattle.std.specs.Prelude.{◌≡◌, ◌≢◌, ◌⊎◌, ℕ, Bool, true, false, IsTrue, List, [], ◌∷◌, ◌++◌, Option, Some, None, Result, Ok, Err}
use Rattle.fault_count.specs.Counts.{Rose}
use Rattle.block_list.specs.declared.status.Status.{Status}
use Rattle.block_list.specs.Tiled.{Tiled, statuses_in}
use Rattle.mapfile_text.specs.declared.read.Mode.{Mode}
use Rattle.mapfile_text.specs.declared.read.MapError.{MapError}
use Rattle.mapfile_text.specs.declared.read.MapError.TheVariants.{NoMemory as OutOfMemory}
use Rattle.mapfile_reader.specs.declared.read.ReadMap.{ReadMap}
use Rattle.mapfile_text.specs.declared.heading.Program.TheVariants.{Ddrescuelog}
use Rattle.mapfile_text.specs.HeadingLines.{HeadingLines}
use Rattle.rescue_console.specs.ConsoleState.{ConsoleState}
use Rattle.rescue_domain.specs.Parts.{covers}
use Rattle.crash_site.specs.declared.site.SiteCall.TheVariants.{MapRead}
use Rattle.crash_site.specs.Files.{file_named}
use Rattle.crash_site.specs.Calls.{Entry}
use Rattle.crash_site.specs.SiteState.{SiteState, files_in}
use Rattle.mapfile_resume.specs.Named.{HasStatuses}
use Rattle.mapfile_resume.specs.Resuming.{IsReadAs}
use Rattle.program_promise.specs.Work.{Take}
use Rattle.ddrescuelog_words.specs.Command.{Command}
use Rattle.ddrescuelog_cli.specs.declared.ending.Which.{Which}
use Rattle.ddrescuelog_cli.specs.declared.load.LoadedMaps.{LoadedMaps}
use Rattle.ddrescuelog_cli.specs.declared.ending.LogEnding.{LogEnding}
use Rattle.ddrescuelog_cli.specs.declared.ending.LogEnding.TheVariants.{Done, NoMap, MapRefused, SiteFault, ConsoleFault, NoMemory}
use Rattle.ddrescuelog_cli.specs.Maps.{Found, Maps, found_in, AreMapsOf, AreAskedFor, domain_of}
use Rattle.ddrescuelog_cli.specs.Modes.{text_of, prints, puts_pieces, log_faults}
use Rattle.ddrescuelog_cli.specs.Printing.{PutsAs, PutsInPieces}
use Rattle.program_promise.specs.Parts.{DidPart, only_calls, StoppedIn, WentThrough}
use Rattle.ddrescuelog_cli.specs.Work.{map_rows, read_rows, WorksOver}

-- what the read of a map that is named did
abbrev pub ReadsMap : Which → Mode → (name : List ℕ) → Result ReadMap LogEnding → (old new : SiteState) → Type 0
ReadsMap which mode name result old new =
    DidPart log_faults (map_rows which mode (Some name)) (files_in old name)
    (λ (m : ReadMap) file. IsReadAs file mode m) result old new

-- what the read of a map that may be named did
abbrev pub ReadsNamed : Which → Mode → (name : Option (List ℕ)) → Result (Option Tiled) LogEnding
    → (old new : SiteState) → Type 0
ReadsNamed which mode name result old new =
    DidPart log_faults (map_rows which mode name) (file_named name (files_in old))
    (λ (tiles : Option Tiled) file. HasStatuses name mode file (statuses_in tiles)) result old new

-- ---- all maps

-- the statuses of tiles, and none if there are no tiles
abbrev pub statuses_or_none : Option Tiled → List Status
statuses_or_none None = []
statuses_or_none (Some tiles) = tiles.statuses

-- the maps that were read
abbrev pub maps_read : ReadMap → (other domain : Option Tiled) → Maps
maps_read m other domain = record {
  shown = m.state;
  statuses = m.tiles.statuses;
  other = statuses_or_none other;
  domain = statuses_in domain;
}

-- what was loaded is what maps say, and the domain that a command asks for of them
pub record IsLoadedAs (c : Command) (m : Maps) (l : LoadedMaps) : Type 0 where
  pub shown : l.state ≡ m.shown
  pub statuses : l.tiles.statuses ≡ m.statuses
  pub other : l.other.statuses ≡ m.other
  pub domain : (x : ℕ) → covers l.domain x ≡ domain_of c m x

-- The maps were read to the last and are what the files are, or the work stopped at one of them.
abbrev pub DidLoad : Command → Found → Result LoadedMaps LogEnding → List Entry → Type 0
DidLoad c found (Ok l) calls =
    (m : Maps) × AreMapsOf c found m × AreAskedFor c m × IsLoadedAs c m l × WentThrough (Take ∷ read_rows c found) calls
DidLoad c found (Err e) calls = StoppedIn log_faults (Take ∷ read_rows c found) e calls

-- There are files that were read, and calls, which are the site's own if it tells.
pub record LoadsMaps (c : Command) (result : Result LoadedMaps LogEnding) (old new : SiteState) : Type 0 where
  pub found : Found
  pub calls : List Entry
  pub is_own : IsTrue old.tells → found ≡ found_in c (files_in old)
  pub gained : IsTrue old.tells → new.calls ≡ old.calls ++ calls
  pub did : DidLoad c found result calls

-- why a read of maps stopped, by the count of failed calls
abbrev pub ReadCause : LogEnding → (faults faults' : ℕ) → Type 0
ReadCause e faults faults' =
    ((e ≡ NoMemory) × (faults' ≡ faults))
    ⊎ ((which : Which) × (e ≡ NoMap which) × (faults' ≡ faults))
    ⊎ ((which : Which) × (error : MapError) × (e ≡ MapRefused which error) × (error ≢ OutOfMemory)
    × (faults' ≡ faults))
    ⊎ ((e ≡ SiteFault MapRead) × Rose faults faults')

-- ---- what a mode does that changes no file

-- the answer of a mode whose text was put
abbrev pub printed_as : {T E : Type 0} → Result T E → LogEnding
printed_as (Ok x) = Done
printed_as (Err fault) = ConsoleFault

-- the answer of a mode that finds what is asked, or doesn't
abbrev pub answer_if : Bool → (otherwise : LogEnding) → LogEnding
answer_if true otherwise = Done
answer_if false otherwise = otherwise

-- A mode ends as the work over these maps does, which calls nothing on the files, and its text was put.
pub record HasFound (c : Command) (h : HeadingLines) (m : Maps) (e : LogEnding) (old new : ConsoleState) : Type 0 where
  pub ends : (line list : List ℕ) → WorksOver c line list m e (only_calls [])
  pub out : (line : List ℕ) → h ≡ record { program = Ddrescuelog; line = line; start_s = 0; now_s = 0 }
      → PutsAs (prints c.mode) e (text_of c.mode c line m) old new
  pub pieces : (line : List ℕ) → h ≡ record { program = Ddrescuelog; line = line; start_s = 0; now_s = 0 }
      → puts_pieces c.mode ≡ true → PutsInPieces e (text_of c.mode c line m) old new
