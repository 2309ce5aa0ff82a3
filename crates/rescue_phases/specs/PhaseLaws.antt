-- What the definitions mean.
use Rattle.std.specs.Prelude.{◌≡◌, false}
use Rattle.faulty_source.specs.SourceState.{SourceState}
use Rattle.faulty_source.specs.SourceChanges.{Stays as SourceStays}
use Rattle.crash_site.specs.SiteState.{SiteState}
use Rattle.rescue_console.specs.ClockState.{ClockState}
use Rattle.rescue_console.specs.ConsoleState.{ConsoleState}
use Rattle.rescue_rules.specs.declared.stop.Stop.{Stop}
use Rattle.rescue_rules.specs.declared.phase.Phase.TheVariants.{Copying}
use Rattle.rescue_rules.specs.Passes.{copying_passes}
use Rattle.rescue_rules.specs.Machine.{has_request}
use Rattle.rescue_rules.specs.Across.{Across}
use Rattle.rescue_core.specs.RunState.{RunState, setting_in}
use Rattle.rescue_phases.specs.Turns.{Went, WentUpTo}
use Rattle.rescue_phases.specs.Copying.{MayCopy}
use Rattle.rescue_phases.specs.Past.{IsPast}

-- a run in copying's last pass, which has no request left, is past copying
abbrev pub CopiedIsPast : Type 0
CopiedIsPast = (r : RunState) → MayCopy r → r.pass ≡ copying_passes → has_request (setting_in r) r.machine ≡ false
    → IsPast Copying r

-- whole turns after whole turns are whole turns
abbrev pub TurnsJoin : Type 0
TurnsJoin = (r q p : RunState) (o : Across) (source : SourceState) (site : SiteState) (clock : ClockState)
    (console : ConsoleState)
    → Went r q (record o { source' = source; site' = site; clock' = clock; console' = console })
    → SourceStays o.source source → site.tells ≡ o.site.tells
    → Went q p (record o { source = source; site = site; clock = clock; console = console }) → Went r p o

-- whole turns, and after them turns up to one that stopped, are turns up to one that stopped
abbrev pub StoppedTurnsJoin : Type 0
StoppedTurnsJoin = (stop : Stop) (r q p : RunState) (o : Across) (source : SourceState) (site : SiteState)
    (clock : ClockState) (console : ConsoleState)
    → Went r q (record o { source' = source; site' = site; clock' = clock; console' = console })
    → SourceStays o.source source → site.tells ≡ o.site.tells
    → WentUpTo stop q p (record o { source = source; site = site; clock = clock; console = console })
    → WentUpTo stop r p o
