-- What a run leaves that goes on to its end, wherever it began.
use Rattle.std.specs.Prelude.{◌≡◌, ℕ, ◌+◌, ◌-◌, Bool, true, false, IsTrue, List, ◌∷◌, ◌++◌, length, map, take, count_by, Option, None}
use Rattle.block_list.specs.declared.status.Status.{Status}
use Rattle.mapfile_text.specs.declared.state.MapState.{MapState}
use Rattle.faulty_source.specs.Journal.{Reading}
use Rattle.crash_site.specs.Files.{File}
use Rattle.crash_site.specs.Calls.{Done}
use Rattle.crash_site.specs.Disk.{disk_after}
use Rattle.crash_site.specs.SiteState.{SiteState}
use Rattle.crash_site.specs.SiteChanges.{Keeps}
use Rattle.mapfile_save.specs.SaveStops.{disk_of}
use Rattle.rescue_rules.specs.declared.phase.Phase.TheVariants.{Retrying}
use Rattle.rescue_rules.specs.declared.stop.Stop.{Stop}
use Rattle.rescue_rules.specs.declared.stop.RunEnd.{RunEnd}
use Rattle.rescue_rules.specs.declared.stop.RunEnd.TheVariants.{Done as RunDone, Stopped}
use Rattle.rescue_rules.specs.Setting.{Setting, IsSensible}
use Rattle.rescue_rules.specs.Passes.{Pass}
use Rattle.rescue_rules.specs.Machine.{Machine, has_request}
use Rattle.rescue_rules.specs.Step.{Event}
use Rattle.rescue_rules.specs.Moves.{begun, state_after, has_ended, IsRun}
use Rattle.rescue_rules.specs.Beginning.{machine_of}
use Rattle.rescue_rules.specs.Events.{reads_of}
use Rattle.rescue_rules.specs.Snapshots.{snapshot_of}
use Rattle.rescue_rules.specs.RunCalls.{run_calls}
use Rattle.rescue_rules.specs.Nameless.{nameless}
use Rattle.rescue_rules.specs.Preparation.{AreFinishedAlike}
use Rattle.rescue_rules.specs.RunStops.{Rests, KeepsPromise, promise_of_run}
use Rattle.rescue_rules.specs.Stops.{is_settle, is_write}
use Rattle.rescue_rules.specs.StopsBy.{is_publish}
use Rattle.rescue_rules.specs.Across.{Across}
use Rattle.rescue_core.specs.RunState.{RunState, setting_in}
use Rattle.rescue_core.specs.Closing.{Closes}
use Rattle.rescue_phases.specs.Turns.{Went}
use Rattle.rescue_phases.specs.Past.{IsPast}
use Rattle.run_laws.specs.Endings.{EndsWell}
use Rattle.task_rescue.specs.Running.{WentToEnd}
use Rattle.turn_laws.specs.Safe.{IsHeldIn, IsSafe}
use Rattle.turn_laws.specs.Laws.{IsLeftWithin}
use Rattle.turn_laws.specs.UnderWay.{IsUnderWay, EndsWellSince}
use Rattle.turn_laws.specs.Ended.{IsLastSaved, IsWellEnded}
use Rattle.turn_laws.specs.PhaseLaws.{is_at_call}
use Rattle.turn_laws.specs.NowLaws.{IsMapped}

-- A run is under way at its start.
abbrev pub StartIsUnderWay : Type 0
StartIsUnderWay = (s : Setting) (map : List Status) (from : Option MapState) (shown : MapState) (time : ℕ)
    → IsUnderWay s (machine_of s map from shown time)

-- A run that is under way stays so, whatever it reads.
abbrev pub RunStaysUnderWay : Type 0
RunStaysUnderWay = (s : Setting) (m : Machine) (es : List Event) → IsSensible s → IsUnderWay s m → IsRun s m es
    → IsUnderWay s (state_after s m es)

-- If the pass of a run that is under way has no request, the run is under way at the start of the next pass.
abbrev pub NextPassIsUnderWay : Type 0
NextPassIsUnderWay = (s : Setting) (m : Machine) (c p : Pass) (ps : List Pass) → IsUnderWay s m
    → has_request s m ≡ false → m.passes ≡ c ∷ p ∷ ps → IsUnderWay s (begun s m p ps)

-- From any state that is under way, a run that has no request left and met no limit ends well.
abbrev pub UnderWayEndsWell : Type 0
UnderWayEndsWell = (s : Setting) (m : Machine) (es : List Event) → IsSensible s → IsUnderWay s m → IsRun s m es
    → has_ended s (state_after s m es) ≡ true → EndsWellSince s m es

-- A run that ends well since its own start ends well as a whole run.
abbrev pub SinceStartIsWell : Type 0
SinceStartIsWell = (s : Setting) (map : List Status) (from : Option MapState) (shown : MapState) (time : ℕ)
    (es : List Event) → EndsWellSince s (machine_of s map from shown time) es
    → EndsWell s (machine_of s map from shown time) es

-- Whole turns from a state that is under way to past the last phase, and the close after them, are a run that is well
-- ended, if the close answers that the run is done.
abbrev pub PhasesEndWell : Type 0
PhasesEndWell = (s : Setting) (r r' : RunState) (o : Across) (site : SiteState) → setting_in r ≡ nameless s
    → IsSensible (setting_in r) → IsUnderWay (setting_in r) r.machine → IsTrue o.site.tells → Keeps o.site o.site'
    → Keeps o.site' site
    → (w : Went r r' o) → IsPast Retrying r' → Closes None r' RunDone o.site' site
    → IsWellEnded s r.machine w.events (disk_of o.site) (disk_of site)

-- A whole run from a state that is under way is well ended, if it answers that it is done.
abbrev pub DoneEndsWell : Type 0
DoneEndsWell = (s : Setting) (r : RunState) (heard : Bool) (o : Across) → setting_in r ≡ nameless s
    → IsSensible (setting_in r) → IsUnderWay (setting_in r) r.machine → IsTrue o.site.tells → Keeps o.site o.site'
    → (w : WentToEnd r RunDone heard o)
    → IsWellEnded s r.machine w.events (disk_of o.site) (disk_of o.site')

-- A whole run that stopped, but not at a call on the files, saved its map, or without a mapfile synced its output.
abbrev pub StoppedIsSaved : Type 0
StoppedIsSaved = (s : Setting) (r : RunState) (stop : Stop) (heard : Bool) (o : Across) → setting_in r ≡ nameless s
    → IsTrue o.site.tells → Keeps o.site o.site' → is_at_call stop ≡ false → (w : WentToEnd r (Stopped stop) heard o)
    → IsLastSaved s (snapshot_of (state_after s r.machine w.events))
    (disk_after (disk_of o.site) (map Done (run_calls s r.machine w.events))) (disk_of o.site')

-- At each stop within a whole run of a safe beginning, however it ends, what may be found is held.
abbrev pub WholeRunIsHeld : Type 0
WholeRunIsHeld = (s : Setting) (start : List ℕ) (reads : List Reading) (r : RunState) (end : RunEnd) (heard : Bool)
    (o : Across) (files : List ℕ → Option File) → setting_in r ≡ nameless s → IsTrue o.site.tells
    → Keeps o.site o.site' → (w : WentToEnd r end heard o) → IsSafe s start reads r.machine (disk_of o.site)
    → IsLeftWithin o.site o.site' files → IsHeldIn s start (reads ++ reads_of w.events) files

-- At each stop within a whole run over an open output and a mapfile that are durable, the mapfile found is one that the
-- run saved, in order, or the one that it began with. It is no older than the last save that had returned, and no newer
-- than the last that had begun to be published. The output found holds what that mapfile's map promises.
abbrev pub WholeRunIsKept : Type 0
WholeRunIsKept = (s : Setting) (began : List Status) (r : RunState) (end : RunEnd) (heard : Bool) (o : Across)
    (files : List ℕ → Option File) → IsMapped s r.machine → setting_in r ≡ nameless s → IsTrue o.site.tells
    → Keeps o.site o.site' → (w : WentToEnd r end heard o) → AreFinishedAlike began r.machine.map
    → Rests s (disk_of o.site) → (l : IsLeftWithin o.site o.site' files)
    → KeepsPromise (promise_of_run s began r.machine w.events (disk_of o.site))
    (count_by is_settle (take (l.moment - length o.site.calls) w.gained))
    (count_by is_publish (take (l.moment - length o.site.calls + 1) w.gained))
    (count_by is_write (take (l.moment - length o.site.calls + 1) w.gained)) files
