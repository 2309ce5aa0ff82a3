-- What stays of a run's safety as its files are, also after a call on them that failed.
use Rattle.std.specs.Prelude.{◌≡◌, ◌⊎◌, ℕ, true, IsTrue, List, [], ◌∷◌, ◌++◌, map, Option}
use Rattle.block_list.specs.declared.status.Status.{Status}
use Rattle.mapfile_text.specs.declared.state.MapState.{MapState}
use Rattle.faulty_source.specs.Journal.{Reading}
use Rattle.crash_site.specs.Files.{File, bytes_of}
use Rattle.crash_site.specs.Calls.{Entry, Done, Failed, image_sync}
use Rattle.crash_site.specs.Disk.{Disk, disk_after}
use Rattle.crash_site.specs.Left.{Leaves}
use Rattle.crash_site.specs.SiteState.{SiteState}
use Rattle.crash_site.specs.SiteChanges.{Keeps}
use Rattle.mapfile_save.specs.SaveStops.{disk_of}
use Rattle.transfer_token.specs.declared.token.Request.{Request}
use Rattle.rescue_rules.specs.declared.stop.Stop.{Stop}
use Rattle.rescue_rules.specs.declared.stop.RunEnd.{RunEnd}
use Rattle.rescue_rules.specs.Setting.{Setting, IsSensible}
use Rattle.rescue_rules.specs.Start.{Stands}
use Rattle.rescue_rules.specs.Machine.{Machine}
use Rattle.rescue_rules.specs.Step.{Event}
use Rattle.rescue_rules.specs.Moves.{state_after, IsRun}
use Rattle.rescue_rules.specs.Events.{reads_of}
use Rattle.rescue_rules.specs.RunCalls.{run_calls}
use Rattle.rescue_rules.specs.Preparation.{AreFinishedAlike}
use Rattle.rescue_rules.specs.Laws.{AreThreeNames}
use Rattle.rescue_rules.specs.MachineLaws.{IsInOrder}
use Rattle.rescue_rules.specs.RunStops.{Rests}
use Rattle.rescue_rules.specs.Nameless.{nameless}
use Rattle.rescue_core.specs.declared.turn.Turn.{Turn}
use Rattle.rescue_rules.specs.Across.{Across}
use Rattle.rescue_core.specs.RunState.{RunState, setting_in}
use Rattle.rescue_core.specs.Turning.{Turned, Halted}
use Rattle.rescue_core.specs.Closing.{Closes}
use Rattle.rescue_phases.specs.Turns.{Went, WentUpTo}
use Rattle.turn_laws.specs.Safe.{IsHeldIn, IsSafe}
use Rattle.turn_laws.specs.SafeNow.{IsSafeNow}
use Rattle.turn_laws.specs.Laws.{IsTurnOf, reads_by}
use Rattle.turn_laws.specs.PhaseLaws.{reads_up_to}

-- a run by these rules: with a mapfile, whose three names differ
pub record IsMapped (s : Setting) (m : Machine) : Type 0 where
  pub sensible : IsSensible s
  pub mapfile : s.has_mapfile ≡ true
  pub names : AreThreeNames s
  pub order : IsInOrder s m

-- the last of these calls is a sync of the output that failed
abbrev pub EndsUnsynced : List Entry → Type 0
EndsUnsynced calls = (before : List Entry) × (steps : ℕ) × (calls ≡ before ++ Failed image_sync steps ∷ [])

-- After the calls of a site a run is safe as its files are now. Or the last of them is a sync of the output that failed:
-- then what may be found is held, but a sync that is tried again makes nothing sure.
abbrev pub StaysSafeNow : Setting → (start : List ℕ) → List Reading → Machine → SiteState → Type 0
StaysSafeNow s start reads m site = IsSafeNow s start reads m (disk_of site)
    ⊎ (EndsUnsynced site.calls
    × ((files : List ℕ → Option File) → Leaves (disk_of site) files → IsHeldIn s start reads files))

-- Safe as its files are now, a run is safe however it goes on.
abbrev pub NowIsSafe : Type 0
NowIsSafe = (s : Setting) (start : List ℕ) (reads : List Reading) (m : Machine) (d : Disk) → IsMapped s m
    → IsSafeNow s start reads m d → IsSafe s start reads m d

-- A run is safe now at first, over an open output and a mapfile that are durable and stand for a map that finishes
-- what the run's does.
abbrev pub RestIsSafeNow : Type 0
RestIsSafeNow = (s : Setting) (began : List Status) (state : Option MapState) (m : Machine) (d : Disk)
    → AreFinishedAlike began m.map → Rests s d → Stands (d.reads.files s.names.map) s.end began state
    → IsSafeNow s (bytes_of (d.reads.files s.outfile)) [] m d

-- With a mapfile, a run that is safe now stays so after some events with all their calls.
abbrev pub RunStaysSafeNow : Type 0
RunStaysSafeNow = (s : Setting) (start : List ℕ) (reads : List Reading) (m : Machine) (d : Disk) (es : List Event)
    → IsMapped s m → IsSafeNow s start reads m d → IsRun s m es
    → IsSafeNow s start (reads ++ reads_of es) (state_after s m es) (disk_after d (map Done (run_calls s m es)))

-- With a mapfile, a run that is safe now stays so after a turn.
abbrev pub TurnStaysSafeNow : Type 0
TurnStaysSafeNow = (s : Setting) (start : List ℕ) (reads : List Reading) (request : Request) (turn : Turn)
    (r r' : RunState) (o : Across) → IsMapped s r.machine → IsTurnOf s request r o
    → (t : Turned request turn r r' o) → IsSafeNow s start reads r.machine (disk_of o.site)
    → IsSafeNow s start (reads ++ t.event.reading ∷ []) r'.machine (disk_of o.site')

-- With a mapfile, a run safe now stays so after a turn that stopped for any cause, also at a failed call on the files; but
-- after a failed sync of the output only what may be found is held.
abbrev pub HaltedStaysSafeNow : Type 0
HaltedStaysSafeNow = (s : Setting) (start : List ℕ) (reads : List Reading) (request : Request) (stop : Stop)
    (r r' : RunState) (o : Across) → IsMapped s r.machine → IsTurnOf s request r o
    → (h : Halted request stop r r' o) → IsSafeNow s start reads r.machine (disk_of o.site)
    → StaysSafeNow s start (reads ++ reads_by h) r'.machine o.site'

-- With a mapfile, a run that is safe now stays so after the whole turns of a phase.
abbrev pub PhaseStaysSafeNow : Type 0
PhaseStaysSafeNow = (s : Setting) (start : List ℕ) (reads : List Reading) (r r' : RunState) (o : Across)
    → IsMapped s r.machine → setting_in r ≡ nameless s → IsTrue o.site.tells → Keeps o.site o.site'
    → (w : Went r r' o) → IsSafeNow s start reads r.machine (disk_of o.site)
    → IsSafeNow s start (reads ++ reads_of w.events) r'.machine (disk_of o.site')

-- With a mapfile, a run that is safe now stays so after turns up to one that stopped, for whatever cause; but after a
-- failed sync of the output only what may be found is held.
abbrev pub StoppedStaysSafeNow : Type 0
StoppedStaysSafeNow = (s : Setting) (start : List ℕ) (reads : List Reading) (stop : Stop) (r r' : RunState)
    (o : Across) → IsMapped s r.machine → setting_in r ≡ nameless s → IsTrue o.site.tells → Keeps o.site o.site'
    → (w : WentUpTo stop r r' o) → IsSafeNow s start reads r.machine (disk_of o.site)
    → StaysSafeNow s start (reads ++ reads_up_to w) r'.machine o.site'

-- With a mapfile, a run that is safe now stays so after the close, wherever that stopped; but after a failed sync of the
-- output only what may be found is held.
abbrev pub CloseStaysSafeNow : Type 0
CloseStaysSafeNow = (s : Setting) (start : List ℕ) (reads : List Reading) (stop : Option Stop) (r : RunState)
    (end : RunEnd) (site site' : SiteState) → s.has_mapfile ≡ true → AreThreeNames s → setting_in r ≡ nameless s
    → IsTrue site.tells → Keeps site site' → Closes stop r end site site'
    → IsSafeNow s start reads r.machine (disk_of site) → StaysSafeNow s start reads r.machine site'
