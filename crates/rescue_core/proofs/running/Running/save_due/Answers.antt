use Rattle.std.proofs.Common.{Bool, false, refl, sym, subst}
use Rattle.mapfile_save.specs.Saving.{Saves}
use Rattle.rescue_core.specs.RunState.{run_of}
use Rattle.rescue_core.proofs.TurnCallLemmas.{save_if}
use Rattle.rescue_core.proofs.KeeperLemmas.{alike_run, heading_stays}
use Rattle.rescue_core.proofs.running.Running.save_due.Goals as goal

pub returns-then-due-clause-stands : goal.returns-then-due-clause-stands
returns-then-due-clause-stands g c =
    heading_stays g.T.Tiles c.args.self.now c.save.new.self c.save.ensures.stands c.save.ensures.line

pub returns-then-due-clause-run : goal.returns-then-due-clause-run
returns-then-due-clause-run g c =
    alike_run g.T.Tiles c.args.self.now _
    (heading_stays g.T.Tiles c.args.self.now c.save.new.self c.save.ensures.stands c.save.ensures.line) refl
    c.save.ensures.program refl c.requires.run

pub returns-then-due-clause-call : goal.returns-then-due-clause-call
returns-then-due-clause-call g c =
    subst (λ (due : Bool). Saves (save_if (run_of g.T.Tiles c.args.self.now) due) false c.save.result
    (g.D.Site.state c.args.site.now) (g.D.Site.state c.save.new.site)) (sym c.if-due.true) c.save.ensures.call
