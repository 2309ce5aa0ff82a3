use Rattle.std.proofs.Common.{List, subst}
use Rattle.crash_site.specs.Calls.{Call}
use Rattle.rescue_console.specs.Speaking.{SpeaksOn}
use Rattle.rescue_core.specs.Closing.{EndsBy}
use Rattle.rescue_rules.specs.declared.report.Counts.{Counts}
use Rattle.rescue_core.proofs.ClosingLemmas.{last_with}
use Rattle.fill_generate.specs.SweepState.{SweepState, setting_of}
use Rattle.fill_generate.specs.Steps.{ClosesFiles}
use Rattle.fill_generate.proofs.EndPieceLemmas.{last_named, last_in}
use Rattle.fill_generate.proofs.sweeping.Sweeping.close.Goals as goal

pub returns-clause-closes : goal.returns-clause-closes
returns-clause-closes g c =
    let i = c.self.inside in
    let old = g.D.Site.state c.args.site.now in
    let new = g.D.Site.state c.close.new.site in
    let end = c.close.result.end in
    subst (λ (r : SweepState). ClosesFiles (setting_of r) r.sweep c.args.stop end old new) c.self.view_is
    (subst (λ (calls : List Call). EndsBy calls c.args.stop end old new)
    (last_named c.args.stop i.settings i.domain (g.T.Tiles.statuses i.tiles) i.cursor i.keeper c.self.invariant.2)
    c.close.ensures.closes)

pub returns-clause-says : goal.returns-clause-says
returns-clause-says g c =
    let end = c.close.result.end in
    let heard = c.close.result.heard in
    let old = g.C.Console.state c.args.console.now in
    let new = g.C.Console.state c.close.new.console in
    subst (λ (r : SweepState). SpeaksOn (last_in end r) r.heard heard old new) c.self.view_is
    (subst (λ (counts : Counts). SpeaksOn (last_with counts end c.self.inside.keeper.tally) c.self.inside.keeper.heard heard
    old new) c.counts_at_first-counts.ensures c.close.ensures.says)
