use Rattle.std.proofs.Common.{refl, sym, ◌∙◌, ap, subst}
use Rattle.std.proofs.lemmas.Result.{err_from_is_err_and}
use Rattle.rescue_core.specs.RunState.{RunState}
use Rattle.rescue_core.proofs.ObjectLemmas.{same_on}
use Rattle.rescue_phases.proofs.TurnLemmas.{goes_on_by_turn, halts, objects_stay}
use Rattle.rescue_phases.proofs.GoingLemmas.{begins_next, turns_in}
use Rattle.rescue_phases.proofs.PassingLemmas.{IsInPass, begins_pass, goes_next, is_done}
use Rattle.rescue_phases.proofs.phases.run_pass.Goals as goal

pub begin_pass-requires-clause-next : goal.begin_pass-requires-clause-next
begin_pass-requires-clause-next g c = (goes_next _ _ _ c.requires.before c.requires.there).next

pub turns-init : goal.turns-init
turns-init g c = (
  begins_next _ _ _ _ _ _ _ _ c.requires.before c.requires.there c.requires.places c.requires.open.input
      c.requires.open.image
      c.requires.no_draft c.begin_pass.ensures,
  record { source = refl; site = refl; clock = refl; console = refl },
  subst IsInPass (sym c.begin_pass.ensures) (begins_pass _ _ _ c.requires.before c.requires.there),
  ap (λ (r : RunState). r.phase) c.begin_pass.ensures,
  ap (λ (r : RunState). r.pass) c.begin_pass.ensures,
)

pub turns-smaller : goal.turns-smaller
turns-smaller g c =
    (turns_in _ _ _ _ _ c.turns.invariant.2 c.in-Some.ensures.some c.in_ok-turn.ensures.turned).less

pub turns-preserved : goal.turns-preserved
turns-preserved g c =
    let by = turns_in _ _ _ _ _ c.turns.invariant.2 c.in-Some.ensures.some c.in_ok-turn.ensures.turned in (
      goes_on_by_turn _ _ _ _ _ _ _ _ _ _ _ _ _ _ _ _ _ c.turns.invariant.0 c.turns.invariant.2.within
          c.in-Some.ensures.some
          c.in_ok-turn.ensures.turned c.in_ok-turn.ensures.draft c.turn.ensures.objects,
      same_on c.turns.invariant.1 c.turn.ensures.same,
      by.inside,
      by.phase ∙ c.turns.invariant.3,
      by.pass ∙ c.turns.invariant.4,
    )

pub returns-in_err-turn-clause-ends : goal.returns-in_err-turn-clause-ends
returns-in_err-turn-clause-ends g c =
    let p = err_from_is_err_and c.from_residual.result c.from_residual.ensures.1 in
    rw (p.1, p.2) (record {
      goes = tt;
      halted = halts _ _ _ _ _ _ _ _ _ _ _ _ _ _ _ _ _ c.turns.invariant.0 c.turns.invariant.2.within
          c.in-Some.ensures.some
          c.in_err-turn.ensures.halted c.in_err-turn.ensures.draft_left;
      objects = objects_stay _ _ _ _ _ _ _ _ _ _ _ _ c.turns.invariant.0.objects c.turn.ensures.objects;
    })

pub returns-clause-done : goal.returns-clause-done
returns-clause-done g c = is_done _ _ c.turns.invariant.2 c.turns.invariant.3 c.in_default.ensures.none
