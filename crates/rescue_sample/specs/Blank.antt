-- What a site and a console tell that keep nothing. For contracts and proofs: no promise uses it.
use Rattle.std.specs.Prelude.{Bool, false, [], None}
use Rattle.fault_count.specs.Schedule.{no_schedule}
use Rattle.crash_site.specs.SiteState.{SiteState}
use Rattle.rescue_console.specs.ConsoleState.{ConsoleState}

-- whether an image is open, and whether a draft is begun; no call fails
abbrev pub blank_state : (opened drafting : Bool) → SiteState
blank_state opened drafting = record {
  tells = false;
  start = record { files = λ name. None; image = None; draft = None };
  calls = [];
  is_open = opened;
  is_drafting = drafting;
  faults = 0;
  is_scheduled = false;
  schedule = no_schedule;
  starved = 0;
}

-- no text, and no put fails
abbrev pub blank_console : ConsoleState
blank_console = record {
  tells = false;
  out = record { text = []; faults = 0 };
  err = record { text = []; faults = 0 };
  is_scheduled = false;
  schedule = no_schedule;
  starved = 0;
}
