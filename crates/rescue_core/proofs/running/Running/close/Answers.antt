use Rattle.std.proofs.Common.{subst}
use Rattle.rescue_console.specs.Speaking.{SpeaksOn}
use Rattle.rescue_rules.specs.declared.report.Counts.{Counts}
use Rattle.rescue_core.proofs.ClosingLemmas.{last_with}
use Rattle.rescue_core.proofs.running.Running.close.Goals as goal

pub returns-clause-says : goal.returns-clause-says
returns-clause-says g c =
    let k = c.args.self.keeper in
    subst (λ (counts : Counts). SpeaksOn (last_with counts c.close.result.end k.tally) k.heard c.close.result.heard
    (g.C.Console.state c.args.console.now) (g.C.Console.state c.close.new.console)) c.requires.run.counted.counts_are
    c.close.ensures.says
