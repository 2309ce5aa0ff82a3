-- What the definitions mean.
use Rattle.std.specs.Prelude.{◌≡◌, ℕ, ◌+◌, ◌≤◌, true, IsTrue, List, [], ◌∷◌, ◌++◌, length, map, Option, None}
use Rattle.block_list.specs.declared.status.Status.{Status}
use Rattle.mapfile_text.specs.declared.state.MapState.{MapState}
use Rattle.faulty_source.specs.Journal.{Reading}
use Rattle.crash_site.specs.Files.{File, bytes_of}
use Rattle.crash_site.specs.Calls.{Entry, Done}
use Rattle.crash_site.specs.Disk.{Disk, disk_after}
use Rattle.crash_site.specs.Left.{Leaves, until, MayBeLeft}
use Rattle.crash_site.specs.SiteState.{SiteState}
use Rattle.crash_site.specs.SiteChanges.{Keeps}
use Rattle.mapfile_save.specs.SaveStops.{disk_of}
use Rattle.transfer_token.specs.declared.token.Request.{Request}
use Rattle.rescue_rules.specs.declared.stop.Stop.{Stop}
use Rattle.rescue_rules.specs.declared.stop.RunEnd.{RunEnd}
use Rattle.rescue_rules.specs.Setting.{Setting, IsSensible}
use Rattle.rescue_rules.specs.Start.{Stands}
use Rattle.rescue_rules.specs.Machine.{Machine, IsRequest}
use Rattle.rescue_rules.specs.Step.{Event, limit_met}
use Rattle.rescue_rules.specs.Moves.{state_after, IsRun}
use Rattle.rescue_rules.specs.Events.{reads_of}
use Rattle.rescue_rules.specs.Snapshots.{Snapshot}
use Rattle.rescue_rules.specs.RunCalls.{run_calls, closing_calls}
use Rattle.rescue_rules.specs.Preparation.{AreFinishedAlike}
use Rattle.rescue_rules.specs.Laws.{AreThreeNames}
use Rattle.rescue_rules.specs.MachineLaws.{IsInOrder}
use Rattle.rescue_rules.specs.Nameless.{nameless}
use Rattle.rescue_rules.specs.RunStops.{ComesTo, Rests}
use Rattle.rescue_core.specs.declared.turn.Turn.{Turn}
use Rattle.rescue_rules.specs.Across.{Across}
use Rattle.rescue_core.specs.RunState.{RunState, setting_in}
use Rattle.rescue_core.specs.Turning.{Turned, Halted, Starved, Lost, Unwritten, Limited, Unsaved}
use Rattle.rescue_core.specs.Closing.{Closes}
use Rattle.turn_laws.specs.Safe.{IsHeldIn, IsSafe}

-- A run is safe if it begins on an open output and a mapfile that are durable, and stands for a map that finishes what
-- the run's does.
abbrev pub RestIsSafe : Type 0
RestIsSafe = (s : Setting) (began : List Status) (state : Option MapState) (m : Machine) (d : Disk) → IsSensible s
    → s.has_mapfile ≡ true → AreThreeNames s → IsInOrder s m → AreFinishedAlike began m.map → Rests s d
    → Stands (d.reads.files s.names.map) s.end began state
    → IsSafe s (bytes_of (d.reads.files s.outfile)) [] m d

-- If a run is safe, what may be found is held.
abbrev pub SafeIsHeld : Type 0
SafeIsHeld = (s : Setting) (start : List ℕ) (reads : List Reading) (m : Machine) (d : Disk)
    (files : List ℕ → Option File) → IsSafe s start reads m d → Leaves d files → IsHeldIn s start reads files

-- A run that goes on by some events stays safe after all their calls.
abbrev pub RunStaysSafe : Type 0
RunStaysSafe = (s : Setting) (start : List ℕ) (reads : List Reading) (m : Machine) (d : Disk) (es : List Event)
    → IsSafe s start reads m d → IsRun s m es
    → IsSafe s start (reads ++ reads_of es) (state_after s m es) (disk_after d (map Done (run_calls s m es)))

-- At each stop of a safe run's calls, and of those of a last save of the map it has come to, what may be found is held.
abbrev pub RunIsHeld : Type 0
RunIsHeld = (s : Setting) (start : List ℕ) (reads : List Reading) (m : Machine) (d : Disk) (es : List Event)
    (last : Snapshot) (calls : List Entry) (k : ℕ) (files : List ℕ → Option File) → IsSafe s start reads m d
    → IsRun s m es → last.map ≡ (state_after s m es).map → ComesTo (run_calls s m es ++ closing_calls s last) calls
    → Leaves (disk_after d (until k calls)) files → IsHeldIn s start (reads ++ reads_of es) files

-- a stop within the calls that a site gained may leave these files
pub record IsLeftWithin (site site' : SiteState) (files : List ℕ → Option File) : Type 0 where
  pub moment : ℕ
  pub from : length site.calls ≤ moment
  pub to : moment ≤ length site'.calls
  pub left : MayBeLeft site'.start site'.calls moment files

-- A turn of a run that is safe by a setting with all names: it asks for its request if no limit is met, and its site
-- tells.
pub record IsTurnOf (s : Setting) (request : Request) (r : RunState) (o : Across) : Type 0 where
  pub setting : setting_in r ≡ nameless s
  pub asks : IsRequest (setting_in r) r.machine request.pos (request.pos + request.len)
  pub within : limit_met (setting_in r) r.machine ≡ None
  pub tells : IsTrue o.site.tells
  pub keeps : Keeps o.site o.site'

-- A whole turn leaves the run safe, with its read.
abbrev pub TurnStaysSafe : Type 0
TurnStaysSafe = (s : Setting) (start : List ℕ) (reads : List Reading) (request : Request) (turn : Turn)
    (r r' : RunState) (o : Across) → IsTurnOf s request r o → (t : Turned request turn r r' o)
    → IsSafe s start reads r.machine (disk_of o.site)
    → IsSafe s start (reads ++ t.event.reading ∷ []) r'.machine (disk_of o.site')

-- At each stop within a whole turn of a safe run, what may be found is held.
abbrev pub TurnIsHeld : Type 0
TurnIsHeld = (s : Setting) (start : List ℕ) (reads : List Reading) (request : Request) (turn : Turn)
    (r r' : RunState) (o : Across) (files : List ℕ → Option File) → IsTurnOf s request r o
    → (t : Turned request turn r r' o)
    → IsSafe s start reads r.machine (disk_of o.site) → IsLeftWithin o.site o.site' files
    → IsHeldIn s start (reads ++ t.event.reading ∷ []) files

-- the reads of a turn that stopped: the one that it made, if it was answered
abbrev pub reads_by : {request : Request} {stop : Stop} {r r' : RunState} {o : Across} → Halted request stop r r' o
    → List Reading
reads_by (Starved is same source site clock console) = []
reads_by (Lost is same loses site before small reads console) = []
reads_by (Unwritten is same event reads names breaks console) = event.reading ∷ []
reads_by (Limited limit is event reads steps met makes says) = event.reading ∷ []
reads_by (Unsaved call is event reads steps due names broke rose says) = event.reading ∷ []

-- Within a turn that stopped, and after it, what may be found is held at each stop.
abbrev pub HaltedTurnIsHeld : Type 0
HaltedTurnIsHeld = (s : Setting) (start : List ℕ) (reads : List Reading) (request : Request) (stop : Stop)
    (r r' : RunState) (o : Across) (files : List ℕ → Option File) → IsTurnOf s request r o
    → (h : Halted request stop r r' o) → IsSafe s start reads r.machine (disk_of o.site)
    → IsLeftWithin o.site o.site' files → IsHeldIn s start (reads ++ reads_by h) files

-- Within the close of a safe run, however that ended, what may be found is held at each stop.
abbrev pub CloseIsHeld : Type 0
CloseIsHeld = (s : Setting) (start : List ℕ) (reads : List Reading) (stop : Option Stop) (r : RunState) (end : RunEnd)
    (site site' : SiteState) (files : List ℕ → Option File) → setting_in r ≡ nameless s → IsTrue site.tells
    → Keeps site site' → Closes stop r end site site' → IsSafe s start reads r.machine (disk_of site)
    → IsLeftWithin site site' files → IsHeldIn s start reads files
