use Rattle.std.proofs.Common.{ap, sym, ◌∙◌}
use Rattle.rescue_rules.specs.declared.report.Counts.{Counts}
use Rattle.rescue_rules.specs.Machine.{is_live}
use Rattle.rescue_rules.specs.Step.{step}
use Rattle.rescue_rules.specs.Counts.{counts_of}
use Rattle.rescue_core.specs.RunState.{setting_in}
use Rattle.rescue_core.proofs.CountsLemmas.{marked_is, counted_on, ends_at}
use Rattle.rescue_core.proofs.counts.count_after.Goals as goal

pub returns-in_default : goal.returns-in_default
returns-in_default g c = λ r e heard were is met.
    let map = g.T.Tiles.statuses c.args.tiles.now in
    let marked = marked_is r e c.args.phase c.args.read.request c.args.read.turn c.args.live map c.args.counts.now _ were is
    c.saturating_add-counts.ensures
    (c.fail_after.ensures r e (ap (λ (n : Counts). n.failed) were.counts_are) is) in
    counted_on r e heard c.args.phase c.args.read.request c.args.read.turn c.args.live map _ is marked (sym c.in_default.is ∙ met)

pub returns-in-Some : goal.returns-in-Some
returns-in-Some g c = λ r e heard were is met.
    let map = g.T.Tiles.statuses c.args.tiles.now in
    let marked = marked_is r e c.args.phase c.args.read.request c.args.read.turn c.args.live map c.args.counts.now _ were is
    c.saturating_add-counts.ensures
    (c.fail_after.ensures r e (ap (λ (n : Counts). n.failed) were.counts_are) is) in
    record {
      counts_are = c.counts_before.ensures
          (counts_of (is_live (setting_in r) (step (setting_in r) r.machine e)) (step (setting_in r) r.machine e).map)
          (ends_at r e c.args.phase c.args.read.request c.args.read.turn c.args.live map _ c.in-Some.end is marked
          (sym c.in-Some.is ∙ met));
    }
