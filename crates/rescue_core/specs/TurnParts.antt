-- What the parts of a turn take, and what they make. For contracts and proofs: no promise uses it.
use Rattle.std.specs.Prelude.{◌≡◌, ⊤, ℕ, ◌+◌, ◌/◌, ◌≤◌, Bool, List, length, take, Option, Some, None, if◌then◌else◌}
use Rattle.block_list.specs.declared.block.Range.{Range}
use Rattle.block_list.specs.declared.tiles.Tiles.{Ghosts as TilesGhosts}
use Rattle.faulty_source.specs.Got.{count_of, is_end}
use Rattle.faulty_source.specs.Journal.{Reading}
use Rattle.faulty_source.specs.SourceState.{SourceState}
use Rattle.crash_site.specs.SiteChanges.{Makes}
use Rattle.rescue_console.specs.ClockState.{ClockState}
use Rattle.transfer_token.specs.declared.token.Request.{Request}
use Rattle.transfer_token.specs.declared.fetch.Cut.{Cut}
use Rattle.transfer_token.specs.declared.fetch.Cut.TheVariants.{Whole, Part, Nothing, Ended, Empty}
use Rattle.transfer_token.specs.Tokens.{Spans, IsCut}
use Rattle.rescue_rules.specs.declared.phase.Phase.{Phase}
use Rattle.rescue_rules.specs.declared.stop.TrimMode.{TrimMode}
use Rattle.rescue_rules.specs.declared.stop.TrimMode.TheVariants.{Lead, Tail}
use Rattle.rescue_rules.specs.declared.progress.Progress.{Progress}
use Rattle.rescue_rules.specs.Setting.{Setting, place}
use Rattle.rescue_rules.specs.Passes.{numbered}
use Rattle.rescue_rules.specs.Machine.{pass_of}
use Rattle.rescue_rules.specs.Said.{is_line_due}
use Rattle.rescue_rules.specs.Step.{Event, is_timely}
use Rattle.rescue_rules.specs.RunCalls.{write_calls}
use Rattle.rescue_rules.specs.Across.{Across}
use Rattle.rescue_core.specs.declared.gather.Gathered.{Gathered}
use Rattle.run_options.specs.declared.settings.Settings.{Settings}
use Rattle.rescue_core.specs.declared.timed.Timed.{Timed}
use Rattle.rescue_core.specs.declared.turn.Advanced.{Advanced}
use Rattle.rescue_core.specs.declared.running.Running.{Running}
use Rattle.rescue_core.specs.RunState.{RunState, setting_in, run_of, IsRun, IsNext}
use Rattle.rescue_core.specs.Turning.{IsEvent, turn_of, stepped, move_by}

-- a run with these settings, in this phase and at this place
pub record RunsAt (settings : Settings) (phase : Phase) (progress : Progress) (r : RunState) : Type 0 where
  pub settings_are : r.settings ≡ settings
  pub pass : pass_of r.machine ≡ numbered phase progress.pass
  pub progress_is : r.machine.progress ≡ progress

-- a read of what was requested, which gave this number of bytes, and met the input's end or didn't
pub record IsReadOf (request : Request) (given : ℕ) (ended : Bool) (reading : Reading) : Type 0 where
  pub pos : reading.pos ≡ request.pos
  pub asked : reading.asked ≡ request.len
  pub count : length reading.given ≡ given
  pub end : reading.ended ≡ ended

-- A read of what was requested between two readings of the clock, and what it was cut into; what it gave is at the
-- buffer's front.
pub record IsTimed (request : Request) (sector : ℕ) (timed : Timed) (buf : List ℕ) (source source' : SourceState)
    (clock clock' : ClockState) : Type 0 where
  pub event : Event
  pub is : IsEvent request event source source' clock clock'
  pub count : length event.reading.given ≡ count_of timed.got
  pub ended : event.reading.ended ≡ is_end timed.got
  pub before : event.before ≡ timed.before
  pub after : event.after ≡ timed.after
  pub cut : IsCut sector event.reading timed.fetched
  pub front : take (length event.reading.given) buf ≡ event.reading.given

-- where a read met the input's end, if it did
abbrev pub end_met : Reading → Option ℕ
end_met r = if r.ended then Some (r.pos + length r.given) else None

-- a read that was cut into this, whose bytes are at the buffer's front, and whose first byte has this place
pub record IsCutAt (fetched : Cut Range) (buf : List ℕ) (at : ℕ) (s : Setting) (r : Reading) : Type 0 where
  pub cut : IsCut s.sector r fetched
  pub front : take (length r.given) buf ≡ r.given
  pub at_is : at ≡ place s r.pos

-- at a range's back a position isn't below the range
abbrev pub IsBackOf : TrimMode → (pos : ℕ) → Type 0
IsBackOf Lead pos = ⊤
IsBackOf (Tail low) pos = low ≤ pos

-- the read of an event, as a run gathered it
pub record IsGathered (request : Request) (r : RunState) (got : Gathered) (e : Event) : Type 0 where
  pub pos : e.reading.pos ≡ request.pos
  pub asked : e.reading.asked ≡ request.len
  pub few : length e.reading.given ≤ request.len
  pub cut : IsCut r.settings.sector e.reading got.kept
  pub turn : got.turn ≡ turn_of r e
  pub after : e.after ≡ got.after

-- a read of what was requested whose kept part was written
pub record Gathers (request : Request) (r : RunState) (got : Gathered) (o : Across) : Type 0 where
  pub event : Event
  pub is : IsEvent request event o.source o.source' o.clock o.clock'
  pub gathered : IsGathered request r got event
  pub writes : Makes (write_calls (setting_in r) event.reading) o.site o.site'

-- a run whose next request was gathered
pub record MayGoOn {T : Type 0} (t : TilesGhosts T) (r : Running T) (request : Request) (got : Gathered)
    : Type 0 where
  pub run : IsRun t r
  pub next : IsNext (run_of t r) request
  pub spans : Spans request got.kept
  pub given : got.turn.given ≤ request.len

-- One step of the rules, and what a turn answers of it. Whether a line is due after it, and whether it is time for a
-- save.
pub record GoesOn (e : Event) (r r' : RunState) (got : Advanced) : Type 0 where
  pub steps : r' ≡ stepped r e r.heard
  pub answers : got.turn ≡ turn_of r e
  pub speaks : got.speaks
      ≡ is_line_due r.machine.tally.said (move_by r e).after.tally.shown.current
      ((move_by r e).after.tally.now / 1000)
  pub saves : got.saves ≡ is_timely r.machine e

-- A turn up to its marks: one event of the request, its step and its write.
pub record Advances (request : Request) (got : Advanced) (r r' : RunState) (o : Across) : Type 0 where
  pub event : Event
  pub is : IsEvent request event o.source o.source' o.clock o.clock'
  pub goes : GoesOn event r r' got
  pub writes : Makes (write_calls (setting_in r) event.reading) o.site o.site'
