-- What a call of `ddrescue` was handed, and all that the objects tell of it.
use Rattle.faulty_source.specs.SourceState.{SourceState}
use Rattle.crash_site.specs.SiteState.{SiteState}
use Rattle.rescue_console.specs.ClockState.{ClockState}
use Rattle.rescue_console.specs.ConsoleState.{ConsoleState}
use Rattle.rescue_rules.specs.Stops.{Before}
use Rattle.program_promise.specs.World.{WorldState, Told as ToldOf, no_feed}
use Rattle.task_files.specs.declared.ending.Ending.{Ending}

-- what it is handed: a source, a site, a clock and a console
abbrev pub handed : SourceState → SiteState → ClockState → ConsoleState → WorldState
handed source site clock console =
    record { source = source; site = site; clock = clock; feed_ = no_feed; console = console }

-- what the objects tell of a call of `ddrescue`; `ToldOf` is `Told` of `program_promise`
abbrev pub Told : Type 0
Told = ToldOf Ending

-- calls that come after those that a site had made
abbrev pub calls_of : SiteState → Before
calls_of site = record { start = site.start; earlier = site.calls }

-- calls that come after those that the site had made before the program was called
abbrev pub calls_before : Told → Before
calls_before t = calls_of t.before.site
