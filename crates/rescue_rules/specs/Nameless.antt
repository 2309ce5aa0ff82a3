-- A run needs neither the names of its input and its output nor the input's length, nor what its output may be, nor how
-- its map was prepared, nor whether more lines come before it.
use Rattle.std.specs.Prelude.{◌≡◌, ◌↔◌, false, List, []}
use Rattle.rescue_rules.specs.Setting.{Setting}
use Rattle.rescue_rules.specs.Machine.{Machine}
use Rattle.rescue_rules.specs.Step.{Event}
use Rattle.rescue_rules.specs.Moves.{moves, state_after, IsRun}
use Rattle.rescue_rules.specs.RunCalls.{run_calls, end_calls}
use Rattle.rescue_rules.specs.Snapshots.{snapshots}
use Rattle.rescue_rules.specs.declared.stop.RunEnd.{RunEnd}
use Rattle.rescue_rules.specs.Lines.{lines_of}

-- a setting without them
abbrev pub nameless : Setting → Setting
nameless s =
    record s { infile = []; outfile = []; forced = false; end = 0; try_again = false; retrim = false; verbose = false }

-- events are a run with them and without, by the same moves, with the same calls and saves
pub record RunsAlike (s : Setting) (m : Machine) (events : List Event) : Type 0 where
  pub run : IsRun (nameless s) m events ↔ IsRun s m events
  pub moves_are : moves (nameless s) m events ≡ moves s m events
  pub state : state_after (nameless s) m events ≡ state_after s m events
  pub calls : run_calls (nameless s) m events ≡ run_calls s m events
  pub last : end_calls (nameless s) m events ≡ end_calls s m events
  pub saves : snapshots (nameless s) m events ≡ snapshots s m events
  pub lines : (end : RunEnd) → lines_of (nameless s) m events end ≡ lines_of s m events end

-- Each run is the same without the names of its input and output, and without the rest that a nameless setting lacks.
abbrev pub RunNeedsNoNames : Type 0
RunNeedsNoNames = (s : Setting) (m : Machine) (events : List Event) → RunsAlike s m events
