use Rattle.std.proofs.Common.{◌≡◌, ap, rules}
use Rattle.rescue_rules.specs.declared.phase.Phase.TheVariants.{Trimming}
use Rattle.rescue_rules.specs.declared.progress.Progress.{Progress}
use Rattle.rescue_core.proofs.progress.progress_after.Goals as goal
use Rattle.rescue_core.proofs.progress.progress_after.Goals.{then-eq, else-eq}

pub returns : goal.returns
returns c = λ r e at read turn size more.
    let old : Progress = c.args.progress.now in
    let pass : r.machine.progress.pass ≡ old.pass = ap (λ (p : Progress). p.pass) at.progress_is in
    let mode : r.machine.progress.mode ≡ old.mode = ap (λ (p : Progress). p.mode) at.progress_is in
    let skip : r.machine.progress.skip ≡ old.skip = ap (λ (p : Progress). p.skip) at.progress_is in
    elim c.if-eq.branch [
      | then-eq w ↦ let trims : c.args.phase ≡ Trimming = search rules in let wanted = more trims in search rules
      | else-eq w ↦ search rules
    ]
