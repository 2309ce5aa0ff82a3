-- What a turn does, by its outcome. For contracts, laws and proofs: no promise uses it.
use Rattle.std.specs.Prelude.{◌≡◌, ℕ, ◌+◌, ◌<◌, ◌≤◌, ◌^◌, Bool, true, IsTrue, List, [], ◌∷◌, ◌++◌, length, map, slice_range, Some, None}
use Rattle.fault_count.specs.Counts.{Rose}
use Rattle.faulty_source.specs.Journal.{is_whole, kept}
use Rattle.faulty_source.specs.SourceState.{SourceState}
use Rattle.faulty_source.specs.SourceChanges.{Reads, Loses}
use Rattle.crash_site.specs.declared.site.SiteCall.{SiteCall}
use Rattle.crash_site.specs.declared.site.SiteCall.TheVariants.{ImageWrite}
use Rattle.crash_site.specs.Calls.{Done}
use Rattle.crash_site.specs.CallsMade.{BrokeAt}
use Rattle.crash_site.specs.SiteChanges.{Makes, Breaks}
use Rattle.mapfile_save.specs.Saving.{save_calls, IsNameIn}
use Rattle.rescue_console.specs.ClockState.{ClockState, Reads as ReadsClock}
use Rattle.rescue_console.specs.Speaking.{SpokenPiece, SpeaksOn, out_pieces}
use Rattle.transfer_token.specs.declared.token.Request.{Request}
use Rattle.mapfile_save.specs.MapNames.{names_in}
use Rattle.rescue_rules.specs.declared.stop.Stop.{Stop}
use Rattle.rescue_rules.specs.declared.stop.Stop.TheVariants.{SourceLost, Site, LimitMet, NoMemory}
use Rattle.rescue_rules.specs.declared.stop.Limit.{Limit}
use Rattle.rescue_rules.specs.Step.{Event, is_slow, limit_met, step}
use Rattle.rescue_rules.specs.Moves.{Move}
use Rattle.rescue_rules.specs.Snapshots.{text_of, snapshot_of, is_due}
use Rattle.rescue_rules.specs.RunCalls.{write_calls, move_calls}
use Rattle.rescue_rules.specs.Lines.{move_lines}
use Rattle.rescue_core.specs.declared.turn.Turn.{Turn}
use Rattle.rescue_rules.specs.Across.{Across}
use Rattle.rescue_core.specs.RunState.{RunState, setting_in}

-- a read of what was requested, which gave the input's own bytes, between two readings of the clock
pub record IsEvent (request : Request) (e : Event) (source source' : SourceState) (clock clock' : ClockState)
    : Type 0 where
  pub pos : e.reading.pos ≡ request.pos
  pub asked : e.reading.asked ≡ request.len
  pub few : length e.reading.given ≤ request.len
  -- the read met the input's end only if it gave less than it was asked for
  pub ends : e.reading.ended ≡ true → length e.reading.given < request.len
  pub right : IsTrue source.tells
      → e.reading.given ≡ slice_range source.bytes request.pos (request.pos + length e.reading.given)
  pub read : Reads (e.reading ∷ []) source source'
  pub times : ReadsClock (e.before ∷ e.after ∷ []) clock clock'
  pub before : e.before < 2 ^ 64
  pub after : e.after < 2 ^ 64

-- the state after an event, of a run that is heard after it or not: one step of the rules; nothing else of the run
-- changes
abbrev pub stepped : RunState → Event → (heard : Bool) → RunState
stepped r e heard = record r { machine = step (setting_in r) r.machine e; heard = heard }

-- the move of an event
abbrev pub move_by : RunState → Event → Move
move_by r e = record { before = r.machine; event = e; after = step (setting_in r) r.machine e }

-- what a turn answers of its event: how much was given and kept, whether it was whole and slow, and whether it met the
-- input's end
abbrev pub turn_of : RunState → Event → Turn
turn_of r e = record {
  kept = kept r.settings.sector e.reading;
  given = length e.reading.given;
  whole = is_whole e.reading;
  slow = is_slow (setting_in r) e;
  ended = e.reading.ended;
}

-- what an event puts: its line, if one is due
abbrev pub move_pieces : RunState → Event → List SpokenPiece
move_pieces r e = out_pieces (move_lines (setting_in r) (move_by r e))

-- A whole turn: one event of the request, its step, its write, its line, and the save that is due after it; it meets no
-- limit.
pub record Turned (request : Request) (turn : Turn) (r r' : RunState) (o : Across) : Type 0 where
  pub event : Event
  pub is : IsEvent request event o.source o.source' o.clock o.clock'
  pub answers : turn ≡ turn_of r event
  pub steps : r' ≡ stepped r event r'.heard
  pub within : limit_met (setting_in r) r'.machine ≡ None
  pub calls : Makes (move_calls (setting_in r) (move_by r event)) o.site o.site'
  pub says : SpeaksOn (move_pieces r event) r.heard r'.heard o.console o.console'

-- A turn that stopped:
pub data Halted (request : Request) (stop : Stop) (r r' : RunState) (o : Across) : Type 0 where
  -- for lack of memory, before it read anything
  Starved : stop ≡ NoMemory → r' ≡ r → o.source' ≡ o.source → o.site' ≡ o.site → o.clock' ≡ o.clock
      → o.console' ≡ o.console → Halted request stop r r' o
  -- in its read, which was lost
  Lost : stop ≡ SourceLost → r' ≡ r → Loses o.source o.source' → o.site' ≡ o.site
      → (before : ℕ) → before < 2 ^ 64 → ReadsClock (before ∷ []) o.clock o.clock' → o.console' ≡ o.console
      → Halted request stop r r' o
  -- in the write of what was kept, and nothing is marked or said
  Unwritten : stop ≡ Site ImageWrite → r' ≡ r → (event : Event)
      → IsEvent request event o.source o.source' o.clock o.clock'
      → IsNameIn ImageWrite (write_calls (setting_in r) event.reading)
      → Breaks ImageWrite (write_calls (setting_in r) event.reading) o.site o.site' → o.console' ≡ o.console
      → Halted request stop r r' o
  -- at a limit, after the event's step, its write and its line; no save is due then
  Limited : (limit : Limit) → stop ≡ LimitMet limit → (event : Event)
      → IsEvent request event o.source o.source' o.clock o.clock'
      → r' ≡ stepped r event r'.heard → limit_met (setting_in r) r'.machine ≡ Some limit
      → Makes (write_calls (setting_in r) event.reading) o.site o.site'
      → SpeaksOn (move_pieces r event) r.heard r'.heard o.console o.console'
      → Halted request stop r r' o
  -- in a call of the save that was due, after the event's step and its line
  Unsaved : (call : SiteCall) → stop ≡ Site call → (event : Event)
      → IsEvent request event o.source o.source' o.clock o.clock'
      → r' ≡ stepped r event r'.heard → is_due (setting_in r) (move_by r event) ≡ true
      → IsNameIn call (save_calls (names_in r.names) (text_of r.line (snapshot_of r'.machine)))
      → (IsTrue o.site.tells → BrokeAt call (save_calls (names_in r.names) (text_of r.line (snapshot_of r'.machine)))
      (o.site.calls ++ map Done (write_calls (setting_in r) event.reading)) o.site'.calls)
      → Rose o.site.faults o.site'.faults
      → SpeaksOn (move_pieces r event) r.heard r'.heard o.console o.console'
      → Halted request stop r r' o
