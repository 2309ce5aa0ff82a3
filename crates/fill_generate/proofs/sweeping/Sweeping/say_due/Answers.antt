use Rattle.std.proofs.Common.{subst}
use Rattle.rescue_console.specs.Speaking.{SpeaksOn}
use Rattle.rescue_rules.specs.declared.report.Counts.{Counts}
use Rattle.rescue_core.proofs.ClosingLemmas.{said_with}
use Rattle.fill_generate.specs.SweepState.{SweepState}
use Rattle.fill_generate.proofs.EndPieceLemmas.{said_in}
use Rattle.fill_generate.proofs.sweeping.Sweeping.say_due.Goals as goal

pub returns-then-due-clause-says : goal.returns-then-due-clause-says
returns-then-due-clause-says g c =
    let old = g.C.Console.state c.args.console.now in
    let new = g.C.Console.state c.say_phase.new.console in
    let heard = c.say_phase.new.self.heard in
    rw c.if-due.true
    (subst (λ (r : SweepState). SpeaksOn (said_in r) r.heard heard old new) c.self.view_is
    (subst (λ (counts : Counts). SpeaksOn (said_with counts c.self.inside.keeper.tally) c.self.inside.keeper.heard heard old new)
    c.counts_at_first-counts.ensures c.say_phase.ensures.says))
