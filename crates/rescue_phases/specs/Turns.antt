-- Whole turns of a run, by what the objects tell, and a turn that stopped after them.
-- For contracts, laws and proofs: no promise uses it.
use Rattle.std.specs.Prelude.{◌≡◌, ◌+◌, true, false, IsTrue, List, All, Result, IfOk, IfErr, OnOk, None}
use Rattle.run_options.specs.Settings.{HasPlaces}
use Rattle.faulty_source.specs.Journal.{IsFrom}
use Rattle.faulty_source.specs.SourceState.{SourceState}
use Rattle.faulty_source.specs.SourceChanges.{Stays as SourceStays, Reads}
use Rattle.crash_site.specs.SiteState.{SiteState}
use Rattle.crash_site.specs.SiteChanges.{Makes}
use Rattle.rescue_console.specs.ClockState.{ClockState, Reads as ReadsClock}
use Rattle.rescue_console.specs.ConsoleState.{ConsoleState}
use Rattle.rescue_console.specs.Speaking.{SpeaksOn, out_pieces}
use Rattle.rescue_domain.specs.Parts.{covers}
use Rattle.transfer_token.specs.declared.token.Request.{Request}
use Rattle.rescue_rules.specs.declared.stop.Stop.{Stop}
use Rattle.rescue_rules.specs.Setting.{Setting}
use Rattle.rescue_rules.specs.Machine.{Machine, IsRequest}
use Rattle.rescue_rules.specs.Step.{Event, limit_met}
use Rattle.rescue_rules.specs.Moves.{ready, state_after, IsRun}
use Rattle.rescue_rules.specs.Events.{reads_of, times_of}
use Rattle.rescue_rules.specs.RunCalls.{run_calls}
use Rattle.rescue_rules.specs.Lines.{run_lines}
use Rattle.rescue_rules.specs.Laws.{AreTimes}
use Rattle.rescue_rules.specs.Across.{Across, ObjectsStay}
use Rattle.rescue_core.specs.RunState.{RunState, setting_in}
use Rattle.rescue_core.specs.Turning.{Halted}
use Rattle.rescue_core.specs.Closing.{StoppedState, drafting_at_stop}

-- Two states that differ at most in the passes without a request that one of them has gone on over. They have the same
-- map and the same tally, and go on to the same request, or both to the end.
pub record IsAlike (s : Setting) (m n : Machine) : Type 0 where
  pub map : n.map ≡ m.map
  pub tally : n.tally ≡ m.tally
  pub next : ready s n ≡ ready s m

-- a run in the pass of another, at that one's place, and heard as that one is
abbrev pub moved_to : RunState → RunState → RunState
moved_to r q = record r { phase = q.phase; pass = q.pass; machine = q.machine; heard = q.heard }

-- Whole turns: a run of events, which gave the input's own bytes, with its readings of the clock, its calls and its
-- lines. They lead to the state after the events, or from there on over passes without a request; nothing else of the
-- run changes.
pub record Went (r r' : RunState) (o : Across) : Type 0 where
  pub events : List Event
  pub run : IsRun (setting_in r) r.machine events
  pub stands : r' ≡ moved_to r r'
  pub state : IsAlike (setting_in r) (state_after (setting_in r) r.machine events) r'.machine
  pub read : Reads (reads_of events) o.source o.source'
  pub right : IsTrue o.source.tells → All (IsFrom o.source.bytes) (reads_of events)
  pub timed : ReadsClock (times_of events) o.clock o.clock'
  pub fit : AreTimes (times_of events)
  pub made : Makes (run_calls (setting_in r) r.machine events) o.site o.site'
  pub says : SpeaksOn (out_pieces (run_lines (setting_in r) r.machine events)) r.heard r'.heard o.console o.console'

-- a turn that stopped, after whole ones, which had met no limit; and a draft is left begun if its stop says so
pub record WentUpTo (stop : Stop) (r r' : RunState) (o : Across) : Type 0 where
  pub between : RunState
  pub source_between : SourceState
  pub site_between : SiteState
  pub clock_between : ClockState
  pub console_between : ConsoleState
  pub went : Went r between (record o {
    source' = source_between;
    site' = site_between;
    clock' = clock_between;
    console' = console_between;
  })
  pub source : SourceStays o.source source_between
  pub site_tells : site_between.tells ≡ o.site.tells
  pub within : limit_met (setting_in between) between.machine ≡ None
  pub request : Request
  pub asks : IsRequest (setting_in between) between.machine request.pos (request.pos + request.len)
  pub halted : Halted request stop between r' (record o {
    source = source_between;
    site = site_between;
    clock = clock_between;
    console = console_between;
  })
  pub draft : o.site'.is_drafting ≡ drafting_at_stop stop

-- a run has gone on by whole turns, and may take more of them
pub record WentByTurns (r r' : RunState) (o : Across) : Type 0 where
  pub places : HasPlaces r'.settings (covers r'.domain)
  pub went : Went r r' o
  pub input : o.source'.is_open ≡ true
  pub no_draft : o.site'.is_drafting ≡ false
  pub objects : ObjectsStay o

-- turns, by their outcome: whole ones, or up to one that stopped
pub record TurnsEnd {T : Type 0} (result : Result T Stop) (r r' : RunState) (o : Across) : Type 0 where
  pub goes : OnOk result (WentByTurns r r' o)
  pub halted : IfErr result (λ stop. WentUpTo stop r r' o)
  pub objects : ObjectsStay o

-- the turns of a phase, which answers where the run has come to
pub record PhaseEnds (r : RunState) (result : Result RunState StoppedState) (o : Across) : Type 0 where
  pub goes : IfOk result (λ r'. WentByTurns r r' o)
  pub halted : IfErr result (λ s. WentUpTo s.stop r s.run o)
  pub objects : ObjectsStay o
