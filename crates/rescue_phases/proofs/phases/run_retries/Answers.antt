use Rattle.std.proofs.Common.{refl, sym, ◌∙◌}
use Rattle.std.proofs.lemmas.List.{append-nil}
use Rattle.std.proofs.lemmas.Result.{err_from_is_err_and}
use Rattle.rescue_rules.specs.declared.phase.Phase.TheVariants.{Retrying}
use Rattle.rescue_rules.specs.Passes.{passes_in}
use Rattle.rescue_core.specs.RunState.{setting_in}
use Rattle.rescue_core.proofs.ObjectLemmas.{same_on}
use Rattle.rescue_phases.proofs.TurnLemmas.{begins, goes_on, went_up_to_on, objects_stay}
use Rattle.rescue_phases.proofs.phases.run_retries.Goals as goal

pub passes-init : goal.passes-init
passes-init g c = (
  begins _ _ _ _ _ c.requires.places c.requires.open.input c.requires.open.image c.requires.no_draft,
  record { source = refl; site = refl; clock = refl; console = refl },
  record {
    sensible = c.requires.past.sensible;
    within = c.requires.past.within;
    spent = c.requires.past.spent;
    left = c.requires.past.left ∙ sym (append-nil (passes_in (setting_in c.args.rescue.now) Retrying 1));
  },
)

pub passes-preserved : goal.passes-preserved
passes-preserved g c = (
  goes_on _ _ _ _ _ _ _ _ _ _ _ _ _ _ _ c.passes.invariant.0 c.in_ok-run_pass.ensures.ends.goes,
  same_on c.passes.invariant.1 c.run_pass.ensures.same,
  c.in_ok-run_pass.ensures.before,
)

pub returns-in_err-run_pass-clause-ends : goal.returns-in_err-run_pass-clause-ends
returns-in_err-run_pass-clause-ends g c =
    let p = err_from_is_err_and c.from_residual.result c.from_residual.ensures.1 in
    rw (p.1, p.2) (record {
      goes = tt;
      halted = went_up_to_on _ _ _ _ _ _ _ _ _ _ _ _ _ _ _ _ c.passes.invariant.0.went
          c.passes.invariant.0.objects.source c.passes.invariant.0.objects.site.tells
          c.in_err-run_pass.ensures.ends.halted;
      objects = objects_stay _ _ _ _ _ _ _ _ _ _ _ _ c.passes.invariant.0.objects c.run_pass.ensures.ends.objects;
    })

pub returns-in_ok-run_pass-clause-ends : goal.returns-in_ok-run_pass-clause-ends
returns-in_ok-run_pass-clause-ends g c =
    let goes = goes_on _ _ _ _ _ _ _ _ _ _ _ _ _ _ _ c.passes.invariant.0 c.in_ok-run_pass.ensures.ends.goes in
    record { goes = goes; halted = tt; objects = goes.objects }
