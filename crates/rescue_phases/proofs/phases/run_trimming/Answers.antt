use Rattle.std.proofs.Common.{sym, ap, ◌∙◌}
use Rattle.run_options.specs.declared.settings.Settings.{Settings}
use Rattle.rescue_phases.proofs.TurnLemmas.{begins}
use Rattle.rescue_phases.proofs.PastLemmas.{past_trimming, past_no_trimming}
use Rattle.rescue_phases.proofs.phases.run_trimming.Goals as goal

pub returns-then-not-settings-clause-ends : goal.returns-then-not-settings-clause-ends
returns-then-not-settings-clause-ends g c =
    let goes = begins _ _ _ _ _ c.requires.places c.requires.input c.requires.image c.requires.no_draft in
    rw c.end_trimming.ensures (record { goes = goes; halted = tt; objects = goes.objects })

pub returns-then-not-settings-clause-past : goal.returns-then-not-settings-clause-past
returns-then-not-settings-clause-past g c =
    rw c.end_trimming.ensures (past_no_trimming _ c.requires.past
    (ap (λ (s : Settings). s.passes.trims) (sym c.settings.ensures) ∙ c.if-not-settings.true))

pub returns-in-Ok-clause-past : goal.returns-in-Ok-clause-past
returns-in-Ok-clause-past g c = rw c.end_trimming-in-Ok.ensures (past_trimming _ c.in-Ok.ensures.before)
