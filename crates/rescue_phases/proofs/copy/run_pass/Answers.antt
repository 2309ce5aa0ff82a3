use Rattle.std.proofs.Common.{refl, ◌∙◌, ap}
use Rattle.std.proofs.lemmas.Result.{err_from_is_err_and}
use Rattle.rescue_core.specs.RunState.{RunState}
use Rattle.rescue_core.proofs.ObjectLemmas.{same_on}
use Rattle.rescue_phases.proofs.TurnLemmas.{begins, goes_on_by_turn, less_ahead, copies_on, halts, objects_stay}
use Rattle.rescue_phases.proofs.copy.run_pass.Goals as goal

pub turns-init : goal.turns-init
turns-init g c = (
  begins _ _ _ _ _ c.requires.places c.requires.open.input c.requires.open.image c.requires.no_draft,
  record { source = refl; site = refl; clock = refl; console = refl },
  c.requires.copying,
  refl,
)

pub returns-in_err-turn : goal.returns-in_err-turn
returns-in_err-turn g c =
    let p = err_from_is_err_and c.from_residual.result c.from_residual.ensures.1 in
    rw (p.1, p.2) (record {
      ends = record {
        goes = tt;
        halted = halts _ _ _ _ _ _ _ _ _ _ _ _ _ _ _ _ _ c.turns.invariant.0 c.turns.invariant.2.within
            c.in-Some.ensures.some
            c.in_err-turn.ensures.halted c.in_err-turn.ensures.draft_left;
        objects = objects_stay _ _ _ _ _ _ _ _ _ _ _ _ c.turns.invariant.0.objects c.turn.ensures.objects;
      };
      same = same_on c.turns.invariant.1 c.turn.ensures.same;
      copying = tt;
      pass = tt;
      spent = tt;
    })

pub turns-preserved : goal.turns-preserved
turns-preserved g c = (
  goes_on_by_turn _ _ _ _ _ _ _ _ _ _ _ _ _ _ _ _ _ c.turns.invariant.0 c.turns.invariant.2.within
      c.in-Some.ensures.some
      c.in_ok-turn.ensures.turned c.in_ok-turn.ensures.draft c.turn.ensures.objects,
  same_on c.turns.invariant.1 c.turn.ensures.same,
  copies_on _ _ _ _ _ c.turns.invariant.2 c.in-Some.ensures.some c.in_ok-turn.ensures.turned,
  ap (λ (q : RunState). q.pass) c.in_ok-turn.ensures.turned.steps ∙ c.turns.invariant.3,
)

pub turns-smaller : goal.turns-smaller
turns-smaller g c =
    less_ahead _ _ _ _ _ c.turns.invariant.2 c.in-Some.ensures.some c.in_ok-turn.ensures.turned
