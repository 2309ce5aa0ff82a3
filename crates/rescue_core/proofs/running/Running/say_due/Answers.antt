use Rattle.std.proofs.Common.{subst}
use Rattle.rescue_console.specs.Speaking.{SpeaksOn}
use Rattle.rescue_console.proofs.SpeakingLemmas.{says_none}
use Rattle.rescue_rules.specs.declared.report.Counts.{Counts}
use Rattle.rescue_core.proofs.KeeperLemmas.{heard_run, heard_stands}
use Rattle.rescue_core.proofs.ClosingLemmas.{said_with}
use Rattle.rescue_core.proofs.running.Running.say_due.Goals as goal

pub returns-then-due-clause-stands : goal.returns-then-due-clause-stands
returns-then-due-clause-stands g c =
    heard_stands g.T.Tiles c.args.self.now c.say_phase.new.self c.say_phase.ensures.stands

pub returns-then-due-clause-run : goal.returns-then-due-clause-run
returns-then-due-clause-run g c =
    heard_run g.T.Tiles c.args.self.now c.say_phase.new.self c.say_phase.ensures.stands c.requires

pub returns-then-due-clause-says : goal.returns-then-due-clause-says
returns-then-due-clause-says g c =
    let k = c.args.self.now.keeper in
    rw c.if-due.true
    (subst (λ (counts : Counts). SpeaksOn (said_with counts k.tally) k.heard c.say_phase.new.self.heard
    (g.C.Console.state c.args.console.now) (g.C.Console.state c.say_phase.new.console)) c.requires.counted.counts_are
    c.say_phase.ensures.says)

pub returns-else-due-clause-says : goal.returns-else-due-clause-says
returns-else-due-clause-says g c = rw c.if-due.false (says_none _ _)
