use Rattle.std.proofs.Common.{rules, refl, sym, ap, subst, ◌∙◌}
use Rattle.crash_site.specs.SiteState.{SiteState}
use Rattle.crash_site.specs.SiteChanges.{Keeps as SiteKeeps}
use Rattle.mapfile_save.proofs.FillLemmas.{keeps_more}
use Rattle.rescue_console.specs.ClockState.{ClockState, Keeps as ClockKeeps}
use Rattle.rescue_core.specs.Closing.{MayClose}
use Rattle.sweep_rules.specs.Sweep.{filler}
use Rattle.fill_generate.specs.SweepState.{SweepState, setting_for}
use Rattle.fill_generate.proofs.DraftLemmas.{may_close, left_ended}
use Rattle.fill_generate.proofs.PiecesLemmas.{pieces_as}
use Rattle.fill_generate.proofs.EndLemmas.{fill_ended}
use Rattle.fill_generate.proofs.fill.run_fill.Goals as goal

pub fill_pieces-ended-requires-clause-room : goal.fill_pieces-ended-requires-clause-room
fill_pieces-ended-requires-clause-room g c =
    let job = c.args.job in
    let s = setting_for job.settings job.domain job.names job.heading.line in
    let begun = c.begin-sweeping.ensures (filler s c.args.types c.args.buffer.now) (record { takes = λ status. refl; current = refl }) in
    c.requires.room ∙ sym (ap (λ (q : SweepState). q.settings.cluster) begun)

pub close-requires : goal.close-requires
close-requires g c =
    let job = c.args.job in
    let s = setting_for job.settings job.domain job.names job.heading.line in
    let begun = c.begin-sweeping.ensures (filler s c.args.types c.args.buffer.now) (record { takes = λ status. refl; current = refl }) in
    let new = c.fill_pieces-ended.new.outside in
    let ends = c.fill_pieces-ended.ensures.ends c.args.types (ap (λ (q : SweepState). q.mode) begun) in
    record {
      no_draft = subst (λ (d : SiteState). MayClose c.err.result d)
          (ap g.D.Site.state {x = new.site.now} (search rules))
          (may_close _ _ _ c.err.ensures.value ends.no_draft ends.draft_left);
    }

pub returns-clause-sweeps : goal.returns-clause-sweeps
returns-clause-sweeps g c =
    let job = c.args.job in
    let s = setting_for job.settings job.domain job.names job.heading.line in
    let begun = c.begin-sweeping.ensures (filler s c.args.types c.args.buffer.now) (record { takes = λ status. refl; current = refl }) in
    let new = c.fill_pieces-ended.new.outside in
    let ends = c.fill_pieces-ended.ensures.ends c.args.types (ap (λ (q : SweepState). q.mode) begun) in
    fill_ended c.args.types c.args.buffer.now _ _ _ c.begin-sweeping.result _ _ _ _ _ _ _ _ _ _ _ c.err.ensures.value begun
    (pieces_as (ap g.D.Site.state {x = new.site.now} (search rules))
    (ap g.K.Clock.state {x = new.clock.now} (search rules))
    (ap g.C.Console.state {x = new.console.now} (search rules)) ends)
    c.close.ensures.closes c.close.ensures.says

pub returns-clause-site : goal.returns-clause-site
returns-clause-site g c =
    let job = c.args.job in
    let s = setting_for job.settings job.domain job.names job.heading.line in
    let begun = c.begin-sweeping.ensures (filler s c.args.types c.args.buffer.now) (record { takes = λ status. refl; current = refl }) in
    let new = c.fill_pieces-ended.new.outside in
    let ends = c.fill_pieces-ended.ensures.ends c.args.types (ap (λ (q : SweepState). q.mode) begun) in
    keeps_more _ _ _ ends.objects.site
    (subst (λ (d : SiteState). SiteKeeps d (g.D.Site.state c.close.new.site))
    (sym (ap g.D.Site.state {x = new.site.now} (search rules))) c.close.ensures.site)

pub returns-clause-image : goal.returns-clause-image
returns-clause-image g c =
    let job = c.args.job in
    let s = setting_for job.settings job.domain job.names job.heading.line in
    let begun = c.begin-sweeping.ensures (filler s c.args.types c.args.buffer.now) (record { takes = λ status. refl; current = refl }) in
    let new = c.fill_pieces-ended.new.outside in
    let ends = c.fill_pieces-ended.ensures.ends c.args.types (ap (λ (q : SweepState). q.mode) begun) in
    c.close.ensures.image
    ∙ sym (ap (λ (d : SiteState). d.is_open) (ap g.D.Site.state {x = new.site.now} (search rules)))
    ∙ ends.objects.image

pub returns-clause-draft : goal.returns-clause-draft
returns-clause-draft g c =
    let job = c.args.job in
    let s = setting_for job.settings job.domain job.names job.heading.line in
    let begun = c.begin-sweeping.ensures (filler s c.args.types c.args.buffer.now) (record { takes = λ status. refl; current = refl }) in
    let new = c.fill_pieces-ended.new.outside in
    let ends = c.fill_pieces-ended.ensures.ends c.args.types (ap (λ (q : SweepState). q.mode) begun) in
    left_ended _ _ _ c.err.ensures.value ends.no_draft ends.draft_left _ _ _ _
    (ap g.D.Site.state {x = new.site.now} (search rules)) c.close.ensures.closes

pub returns-clause-clock : goal.returns-clause-clock
returns-clause-clock g c =
    let job = c.args.job in
    let s = setting_for job.settings job.domain job.names job.heading.line in
    let begun = c.begin-sweeping.ensures (filler s c.args.types c.args.buffer.now) (record { takes = λ status. refl; current = refl }) in
    let new = c.fill_pieces-ended.new.outside in
    let ends = c.fill_pieces-ended.ensures.ends c.args.types (ap (λ (q : SweepState). q.mode) begun) in
    subst (λ (k : ClockState). ClockKeeps (g.K.Clock.state c.args.clock.now) k)
    (ap g.K.Clock.state {x = new.clock.now} (search rules)) ends.objects.clock
