use Rattle.std.proofs.Common.{sym, ap, ◌∙◌}
use Rattle.run_options.specs.declared.settings.Settings.{Settings}
use Rattle.rescue_phases.proofs.TurnLemmas.{begins}
use Rattle.rescue_phases.proofs.PastLemmas.{past_scraping, past_no_scraping}
use Rattle.rescue_phases.proofs.phases.run_scraping.Goals as goal

pub returns-then-not-settings-clause-ends : goal.returns-then-not-settings-clause-ends
returns-then-not-settings-clause-ends g c =
    let goes = begins _ _ _ _ _ c.requires.places c.requires.input c.requires.image c.requires.no_draft in
    rw c.end_scraping.ensures (record { goes = goes; halted = tt; objects = goes.objects })

pub returns-then-not-settings-clause-past : goal.returns-then-not-settings-clause-past
returns-then-not-settings-clause-past g c =
    rw c.end_scraping.ensures (past_no_scraping _ c.requires.past
    (ap (λ (s : Settings). s.passes.scrapes) (sym c.settings.ensures) ∙ c.if-not-settings.true))

pub returns-in-Ok-clause-past : goal.returns-in-Ok-clause-past
returns-in-Ok-clause-past g c = rw c.end_scraping-in-Ok.ensures (past_scraping _ c.in-Ok.ensures.before)
