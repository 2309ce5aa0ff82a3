use Rattle.rescue_rules.specs.declared.phase.Phase.TheVariants.{Copying}
use Rattle.rescue_core.specs.RunState.{setting_with}
use Rattle.rescue_core.proofs.BeginLemmas.{first_none, first_last}
use Rattle.rescue_core.proofs.progress.first_progress.Goals as goal

pub returns-in_default-clause-cursor : goal.returns-in_default-clause-cursor
returns-in_default-clause-cursor c =
    λ domain names line map end.
    first_none (setting_with c.args.settings.now domain names line) c.args.loaded map c.progress_at_start.result.cursor c.in_default.is
    (c.progress_at_start.ensures.cursor domain names line Copying map end)

pub returns-then-pass-eq-COPYING_PASSES-clause-cursor : goal.returns-then-pass-eq-COPYING_PASSES-clause-cursor
returns-then-pass-eq-COPYING_PASSES-clause-cursor c =
    λ domain names line map end.
    first_last (setting_with c.args.settings.now domain names line) c.args.loaded c.in-Some.state map c.min-pass.result
    c.progress_at_start-progress.result.cursor c.in-Some.is c.min-pass.ensures c.if-pass-eq-COPYING_PASSES.true
    (c.progress_at_start-progress.ensures.cursor domain names line Copying map end)
