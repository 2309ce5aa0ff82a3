-- What a rescue saves, and when.
use Rattle.std.specs.Prelude.{ℕ, ◌/◌, Bool, ◌&&◌, is_none, List, [], ◌∷◌, ◌++◌, map, filter, if◌then◌else◌}
use Rattle.block_list.specs.declared.status.Status.{Status}
use Rattle.mapfile_text.specs.declared.heading.Program.TheVariants.{Ddrescue}
use Rattle.mapfile_text.specs.declared.state.Current.TheVariants.{Finished}
use Rattle.mapfile_text.specs.declared.state.MapState.{MapState}
use Rattle.mapfile_text.specs.HeadingLines.{HeadingLines}
use Rattle.mapfile_text.specs.Printed.{printed}
use Rattle.rescue_rules.specs.declared.tally.Tally.{Tally}
use Rattle.rescue_rules.specs.Setting.{Setting}
use Rattle.rescue_rules.specs.Machine.{Machine}
use Rattle.rescue_rules.specs.Step.{Event, is_timely, limit_met}
use Rattle.rescue_rules.specs.Moves.{Move, moves, state_after, has_ended}

-- what a saved mapfile says: a map, how far the rescue was, and the times of the start and of the last event
pub record Snapshot : Type 0 where
  pub map : List Status
  pub shown : MapState
  pub began : ℕ
  pub now : ℕ

-- the heading of a rescue's mapfile, with these times in whole seconds
abbrev pub heading_at : List ℕ → (began now : ℕ) → HeadingLines
heading_at line began now = record { program = Ddrescue; line = line; start_s = began / 1000; now_s = now / 1000 }

-- the text of a saved mapfile
abbrev pub text_of : List ℕ → Snapshot → List ℕ
text_of line p = printed (heading_at line p.began p.now) p.shown p.map

-- what a save shows of a map, with what a run has come to
abbrev pub snapshot_with : List Status → Tally → Snapshot
snapshot_with map t = record { map = map; shown = t.shown; began = t.began; now = t.now }

-- what a save shows of a finished run, by its map and what it has come to: it says that the run is finished
abbrev pub finished_with : List Status → Tally → Snapshot
finished_with map t = record (snapshot_with map t) { shown = record t.shown { current = Finished; pass = 1 } }

-- what a save shows of a state
abbrev pub snapshot_of : Machine → Snapshot
snapshot_of m = snapshot_with m.map m.tally

-- with a mapfile, a save is due after an event that comes long enough after the last due one, and meets no limit
abbrev pub is_due : Setting → Move → Bool
is_due s v = s.has_mapfile && is_timely v.before v.event && is_none (limit_met s v.after)

-- what a save shows of a finished run's state: it says that the run is finished
abbrev pub finished_snapshot : Machine → Snapshot
finished_snapshot m = finished_with m.map m.tally

-- what the run's end saves
abbrev pub last_snapshot : Setting → Machine → Snapshot
last_snapshot s m = if has_ended s m then finished_snapshot m else snapshot_of m

-- what a run with a mapfile saves, in order: the due saves, and one at its end
abbrev pub snapshots : Setting → Machine → List Event → List Snapshot
snapshots s m events =
    map (λ v. snapshot_of v.after) (filter (is_due s) (moves s m events))
    ++ last_snapshot s (state_after s m events) ∷ []
