-- Turns of a pass after copying.
use Rattle.std.proofs.Common.{◌≡◌, ℕ, ◌+◌, ◌<◌, true, false, refl, sym, ap, ◌∙◌, subst}
use Rattle.run_options.specs.Settings.{HasPlaces}
use Rattle.rescue_rules.specs.Step.{limit_met}
use Rattle.faulty_source.specs.SourceState.{SourceState}
use Rattle.crash_site.specs.SiteState.{SiteState}
use Rattle.rescue_console.specs.ClockState.{ClockState}
use Rattle.rescue_console.specs.ConsoleState.{ConsoleState}
use Rattle.rescue_domain.specs.Parts.{covers}
use Rattle.transfer_token.specs.declared.token.Request.{Request}
use Rattle.rescue_rules.specs.declared.phase.Phase.{Phase}
use Rattle.rescue_rules.specs.Machine.{IsRequest}
use Rattle.rescue_core.specs.declared.turn.Turn.{Turn}
use Rattle.rescue_rules.specs.Across.{Across, across}
use Rattle.rescue_core.specs.RunState.{RunState, setting_in, passed}
use Rattle.rescue_core.specs.Turning.{Turned}
use Rattle.rescue_phases.specs.Turns.{WentByTurns}
use Rattle.rescue_phases.proofs.TurnLemmas.{IsOneMove, one_move, begins, goes_on_by_pass}
use Rattle.rescue_phases.specs.Passing.{IsPassOf, IsBeforePass}
use Rattle.rescue_phases.proofs.PassingLemmas.{IsInPass, left_of, PassStep, passes_step, GoesNext, goes_next}

-- A run goes on by the start of its next pass,
pub begins_next : (phase : Phase) (number : ℕ) (r r1 : RunState) (a : SourceState) (d : SiteState) (k : ClockState)
    (x : ConsoleState) → IsBeforePass phase number r → IsPassOf (setting_in r) phase number
    → HasPlaces r.settings (covers r.domain) → a.is_open ≡ true → d.is_open ≡ true → d.is_drafting ≡ false
    → r1 ≡ passed r phase number → WentByTurns r r1 (across a a d d k k x x)
begins_next phase number r r1 a d k x b there places input image no_draft is =
    let by : GoesNext phase number r = goes_next phase number r b there in
    goes_on_by_pass r r r1 (across a a d d k k x x) phase number by.first (begins r a d k x places input image no_draft)
    b.spent by.passes is

-- and each turn leaves less to read, in the same pass.
pub record TurnsIn (r r2 : RunState) : Type 0 where
  pub phase : r2.phase ≡ r.phase
  pub pass : r2.pass ≡ r.pass
  pub inside : IsInPass r2
  pub less : left_of r2.phase r2 < left_of r.phase r

pub turns_in : (r r2 : RunState) (request : Request) (turn : Turn) (o : Across) → IsInPass r
    → IsRequest (setting_in r) r.machine request.pos (request.pos + request.len) → Turned request turn r r2 o
    → TurnsIn r r2
turns_in r r2 request turn o i asks t =
    let one : IsOneMove r t.event =
    one_move r request t.event o.source o.source' o.clock o.clock' i.within asks t.is in
    let by : PassStep r t.event r2.heard =
    passes_step r t.event r2.heard i one.asks one.few
    (ap (λ (q : RunState). limit_met (setting_in r) q.machine) (sym t.steps) ∙ t.within) in
    subst (λ (q : RunState). TurnsIn r q) (sym t.steps)
    (record { phase = refl; pass = refl; inside = by.inside; less = by.less })
