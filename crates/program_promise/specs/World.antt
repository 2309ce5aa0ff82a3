-- All that the objects tell which a program may be handed, at one time, and what they tell of a call.
use Rattle.std.specs.Prelude.{ℕ, false, List, [], None}
use Rattle.fault_count.specs.Schedule.{no_schedule}
use Rattle.faulty_source.specs.SourceState.{SourceState}
use Rattle.crash_site.specs.SiteState.{SiteState}
use Rattle.rescue_console.specs.ClockState.{ClockState}
use Rattle.rescue_console.specs.FeedState.{FeedState}
use Rattle.rescue_console.specs.ConsoleState.{ConsoleState}
use Rattle.rescue_rules.specs.Across.{no_source}

-- what all objects tell
pub record WorldState : Type 0 where
  pub source : SourceState
  pub site : SiteState
  pub clock : ClockState
  pub feed_ : FeedState
  pub console : ConsoleState

-- Files for a program that isn't handed any: they tell nothing, and never change. The same goes for `no_clock` and
-- `no_feed`.
abbrev pub no_site : SiteState
no_site = record {
  tells = false;
  start = record { files = λ name. None; image = None; draft = None };
  calls = [];
  is_open = false;
  is_drafting = false;
  faults = 0;
  is_scheduled = false;
  schedule = no_schedule;
  starved = 0;
}

-- a clock for a program that isn't handed one
abbrev pub no_clock : ClockState
no_clock = record { tells = false; readings = []; is_scheduled = false; schedule = [] }

-- a feed for a program that isn't handed one
abbrev pub no_feed : FeedState
no_feed = record { tells = false; left = []; faults = 0; is_scheduled = false; schedule = no_schedule }

-- this world with another console
abbrev pub with_console : WorldState → ConsoleState → WorldState
with_console w console =
    record { source = w.source; site = w.site; clock = w.clock; feed_ = w.feed_; console = console }

-- the words, the answer, and what all objects tell before the call and after it
pub record Told (E : Type 0) : Type 0 where
  pub words : List (List ℕ)
  pub answer : E
  pub before : WorldState
  pub after : WorldState

-- the record of these
abbrev pub told : {E : Type 0} → (words : List (List ℕ)) → E → (before after : WorldState) → Told E
told words answer before after = record { words = words; answer = answer; before = before; after = after }

-- what a program that has a site and a console alone is handed
abbrev pub handed : SiteState → ConsoleState → WorldState
handed site console =
    record { source = no_source; site = site; clock = no_clock; feed_ = no_feed; console = console }
