use Rattle.std.proofs.Common.{refl, sym, ◌∙◌, ap, arith, ℕ, ◌+◌, Some}
use Rattle.std.proofs.lemmas.Result.{err_from_is_err_and}
use Rattle.rescue_rules.specs.declared.phase.Phase.TheVariants.{Copying}
use Rattle.rescue_rules.specs.Passes.{numbered}
use Rattle.rescue_core.proofs.ObjectLemmas.{same_on}
use Rattle.rescue_phases.proofs.CopyingLemmas.{second_is}
use Rattle.rescue_phases.proofs.TurnLemmas.{begins, goes_on, goes_on_by_next, went_up_to_on, objects_stay}
use Rattle.rescue_phases.proofs.copy.run_passes.Goals as goal

pub passes-init : goal.passes-init
passes-init g c = (
  begins _ _ _ _ _ c.requires.places c.requires.open.input c.requires.open.image c.requires.no_draft,
  record { source = refl; site = refl; clock = refl; console = refl },
  c.requires.copying,
)

pub returns-in_err-run_pass-clause-ends : goal.returns-in_err-run_pass-clause-ends
returns-in_err-run_pass-clause-ends g c =
    let p = err_from_is_err_and c.from_residual.result c.from_residual.ensures.1 in
    rw (p.1, p.2) (record {
      goes = tt;
      halted = went_up_to_on _ _ _ _ _ _ _ _ _ _ _ _ _ _ _ _ c.passes.invariant.0.went
          c.passes.invariant.0.objects.source c.passes.invariant.0.objects.site.tells
          c.in_err-run_pass.ensures.ends.halted;
      objects = objects_stay _ _ _ _ _ _ _ _ _ _ _ _ c.passes.invariant.0.objects c.run_pass.ensures.ends.objects;
    })

pub returns-then-pass-ge-COPYING_PASSES-clause-ends : goal.returns-then-pass-ge-COPYING_PASSES-clause-ends
returns-then-pass-ge-COPYING_PASSES-clause-ends g c =
    let goes = goes_on _ _ _ _ _ _ _ _ _ _ _ _ _ _ _ c.passes.invariant.0 c.in_ok-run_pass.ensures.ends.goes in
    record { goes = goes; halted = tt; objects = goes.objects }

pub begin_pass-requires-clause-next : goal.begin_pass-requires-clause-next
begin_pass-requires-clause-next g c =
    second_is _ c.in_ok-run_pass.ensures.copying
    (omega (arith, c.if-pass-ge-COPYING_PASSES.false, c.pass-pass.ensures))
    ∙ ap (λ (n : ℕ). Some (numbered Copying (n + 1))) (sym c.pass-pass.ensures)

pub passes-preserved : goal.passes-preserved
passes-preserved g c =
    let on = goes_on_by_next _ _ _ _ _
    (goes_on _ _ _ _ _ _ _ _ _ _ _ _ _ _ _ c.passes.invariant.0 c.in_ok-run_pass.ensures.ends.goes)
    c.in_ok-run_pass.ensures.copying c.in_ok-run_pass.ensures.spent
    (omega (arith, c.if-pass-ge-COPYING_PASSES.false, c.pass-pass.ensures)) c.pass-pass.ensures c.begin_pass.ensures in
    (on.0, same_on c.passes.invariant.1 c.run_pass.ensures.same, on.1)
