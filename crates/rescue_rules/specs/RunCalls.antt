-- The calls on its files that a run makes.
use Rattle.std.specs.Prelude.{ℕ, nat_eq, List, [], ◌∷◌, ◌++◌, take, if◌then◌else◌}
use Rattle.std.specs.List.{flat_map}
use Rattle.faulty_source.specs.Journal.{Reading, kept}
use Rattle.crash_site.specs.Calls.{Call, image_write, image_sync}
use Rattle.crash_site.specs.Files.{written}
use Rattle.mapfile_save.specs.Saving.{save_calls}
use Rattle.rescue_rules.specs.Setting.{Setting, place}
use Rattle.rescue_rules.specs.Machine.{Machine}
use Rattle.rescue_rules.specs.Step.{Event}
use Rattle.rescue_rules.specs.Moves.{Move, moves, state_after}
use Rattle.rescue_rules.specs.Snapshots.{Snapshot, text_of, snapshot_of, is_due, last_snapshot}

-- what is kept of a read is written at its place, if it is anything
abbrev pub write_calls : Setting → Reading → List Call
write_calls s r =
    if nat_eq (kept s.sector r) 0 then [] else image_write (place s r.pos) (take (kept s.sector r) r.given) ∷ []

-- the bytes of the output after the write of what is kept of a read
abbrev pub output_by : Setting → List ℕ → Reading → List ℕ
output_by s bytes r =
    if nat_eq (kept s.sector r) 0 then bytes else written bytes (place s r.pos) (take (kept s.sector r) r.given)

-- the bytes of the output after the writes of these events
abbrev pub output_after : Setting → List ℕ → List Event → List ℕ
output_after s bytes [] = bytes
output_after s bytes (e ∷ es) = output_after s (output_by s bytes e.reading) es

-- the save that is due after a move, if one is
abbrev pub due_calls : Setting → Move → List Call
due_calls s v = if is_due s v then save_calls s.names (text_of s.line (snapshot_of v.after)) else []

-- a move makes a write, and a due save
abbrev pub move_calls : Setting → Move → List Call
move_calls s v = write_calls s v.event.reading ++ due_calls s v

-- the calls that the moves of a run make
abbrev pub run_calls : Setting → Machine → List Event → List Call
run_calls s m events = flat_map (move_calls s) (moves s m events)

-- a save, or without a mapfile an image sync
abbrev pub closing_calls : Setting → Snapshot → List Call
closing_calls s p = if s.has_mapfile then save_calls s.names (text_of s.line p) else image_sync ∷ []

-- the calls at the run's end
abbrev pub end_calls : Setting → Machine → List Event → List Call
end_calls s m events = closing_calls s (last_snapshot s (state_after s m events))
