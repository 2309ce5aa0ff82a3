-- What the turns of a phase leave safe, whole ones and those up to one that stopped.
use Rattle.std.specs.Prelude.{◌≡◌, ℕ, Bool, true, false, IsTrue, List, ◌++◌, Option}
use Rattle.faulty_source.specs.Journal.{Reading}
use Rattle.crash_site.specs.Files.{File}
use Rattle.crash_site.specs.Disk.{Disk}
use Rattle.crash_site.specs.SiteChanges.{Keeps}
use Rattle.mapfile_save.specs.SaveStops.{disk_of}
use Rattle.transfer_token.specs.declared.token.Request.{Request}
use Rattle.rescue_rules.specs.declared.stop.Stop.{Stop}
use Rattle.rescue_rules.specs.declared.stop.Stop.TheVariants.{SourceLost, Site, LimitMet, NoMemory}
use Rattle.rescue_rules.specs.Setting.{Setting}
use Rattle.rescue_rules.specs.Machine.{Machine}
use Rattle.rescue_rules.specs.Events.{reads_of}
use Rattle.rescue_rules.specs.Nameless.{nameless}
use Rattle.rescue_rules.specs.Across.{Across}
use Rattle.rescue_core.specs.RunState.{RunState, setting_in}
use Rattle.rescue_core.specs.Turning.{Halted}
use Rattle.rescue_phases.specs.Turns.{IsAlike, Went, WentUpTo}
use Rattle.turn_laws.specs.Safe.{IsHeldIn, IsSafe}
use Rattle.turn_laws.specs.Laws.{IsLeftWithin, IsTurnOf, reads_by}

-- States that are alike are safe alike.
abbrev pub AlikeAreSafe : Type 0
AlikeAreSafe = (s : Setting) (start : List ℕ) (reads : List Reading) (m n : Machine) (d : Disk) → IsAlike s m n
    → IsSafe s start reads m d → IsSafe s start reads n d

-- Whole turns, as each phase makes them, leave the run safe where it has come to, with their reads.
abbrev pub PhaseStaysSafe : Type 0
PhaseStaysSafe = (s : Setting) (start : List ℕ) (reads : List Reading) (r r' : RunState) (o : Across)
    → setting_in r ≡ nameless s → IsTrue o.site.tells → Keeps o.site o.site' → (w : Went r r' o)
    → IsSafe s start reads r.machine (disk_of o.site)
    → IsSafe s start (reads ++ reads_of w.events) r'.machine (disk_of o.site')

-- At each stop within whole turns of a safe run, what may be found is held.
abbrev pub PhaseIsHeld : Type 0
PhaseIsHeld = (s : Setting) (start : List ℕ) (reads : List Reading) (r r' : RunState) (o : Across)
    (files : List ℕ → Option File) → setting_in r ≡ nameless s → IsTrue o.site.tells → Keeps o.site o.site'
    → (w : Went r r' o) → IsSafe s start reads r.machine (disk_of o.site) → IsLeftWithin o.site o.site' files
    → IsHeldIn s start (reads ++ reads_of w.events) files

-- a run stopped at a call on the files, after which no other is made
abbrev pub is_at_call : Stop → Bool
is_at_call SourceLost = false
is_at_call (Site call) = true
is_at_call (LimitMet limit) = false
is_at_call NoMemory = false

-- A turn that stopped leaves the run safe, unless it stopped at a call on the files.
abbrev pub HaltedTurnStaysSafe : Type 0
HaltedTurnStaysSafe = (s : Setting) (start : List ℕ) (reads : List Reading) (request : Request) (stop : Stop)
    (r r' : RunState) (o : Across) → IsTurnOf s request r o → (h : Halted request stop r r' o)
    → is_at_call stop ≡ false → IsSafe s start reads r.machine (disk_of o.site)
    → IsSafe s start (reads ++ reads_by h) r'.machine (disk_of o.site')

-- the reads of turns up to one that stopped
abbrev pub reads_up_to : {stop : Stop} {r r' : RunState} {o : Across} → WentUpTo stop r r' o → List Reading
reads_up_to w = reads_of w.went.events ++ reads_by w.halted

-- Turns up to one that stopped leave the run safe, unless it stopped at a call on the files.
abbrev pub StoppedTurnsStaySafe : Type 0
StoppedTurnsStaySafe = (s : Setting) (start : List ℕ) (reads : List Reading) (stop : Stop) (r r' : RunState)
    (o : Across) → setting_in r ≡ nameless s → IsTrue o.site.tells → Keeps o.site o.site'
    → (w : WentUpTo stop r r' o) → is_at_call stop ≡ false → IsSafe s start reads r.machine (disk_of o.site)
    → IsSafe s start (reads ++ reads_up_to w) r'.machine (disk_of o.site')

-- At each stop within turns of a safe run up to one that stopped, for whatever cause, what may be found is held.
abbrev pub StoppedTurnsAreHeld : Type 0
StoppedTurnsAreHeld = (s : Setting) (start : List ℕ) (reads : List Reading) (stop : Stop) (r r' : RunState)
    (o : Across) (files : List ℕ → Option File) → setting_in r ≡ nameless s → IsTrue o.site.tells
    → Keeps o.site o.site' → (w : WentUpTo stop r r' o) → IsSafe s start reads r.machine (disk_of o.site)
    → IsLeftWithin o.site o.site' files → IsHeldIn s start (reads ++ reads_up_to w) files
