-- A rescue's run as one that saves while it goes. For contracts and proofs: no promise uses it.
use Rattle.std.specs.Prelude.{◌≡◌, List, ◌++◌, map, Some, None, if◌then◌else◌}
use Rattle.rescue_rules.specs.Setting.{Setting}
use Rattle.rescue_rules.specs.Machine.{Machine}
use Rattle.rescue_rules.specs.Step.{Event}
use Rattle.rescue_rules.specs.Moves.{Move, moves, state_after}
use Rattle.rescue_rules.specs.Snapshots.{snapshot_of, is_due, last_snapshot, snapshots}
use Rattle.rescue_rules.specs.RunCalls.{write_calls, run_calls, end_calls}
use Rattle.rescue_rules.specs.Deeds.{Deed, doing_calls, saves_in}

-- what a move does: its write, and the save that is due after it
abbrev pub move_deed : Setting → Move → Deed
move_deed s v = record {
  calls = write_calls s v.event.reading;
  save = if is_due s v then Some (snapshot_of v.after) else None;
}

-- what a run does: the deeds of its moves, in order
abbrev pub run_deeds : Setting → Machine → List Event → List Deed
run_deeds s m events = map (move_deed s) (moves s m events)

-- the deeds of a run make the run's calls, and its saves
pub record DoAlike (s : Setting) (m : Machine) (events : List Event) : Type 0 where
  pub calls : doing_calls s (run_deeds s m events) (last_snapshot s (state_after s m events))
      ≡ run_calls s m events ++ end_calls s m events
  pub saves : saves_in (run_deeds s m events) (last_snapshot s (state_after s m events)) ≡ snapshots s m events

-- law: the deeds of each run make its calls, and its saves
abbrev pub RunIsDeeds : Type 0
RunIsDeeds = (s : Setting) (m : Machine) (events : List Event) → DoAlike s m events
