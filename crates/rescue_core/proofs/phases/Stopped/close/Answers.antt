use Rattle.std.proofs.Common.{Some, subst}
use Rattle.rescue_console.specs.Speaking.{SpeaksOn}
use Rattle.rescue_core.specs.Closing.{StoppedState, Closes, last_pieces}
use Rattle.rescue_core.proofs.phases.Stopped.close.Goals as goal

pub returns-clause-closes : goal.returns-clause-closes
returns-clause-closes g c =
    subst (λ (s : StoppedState). Closes (Some s.stop) s.run c.close.result.end (g.D.Site.state c.args.site.now)
    (g.D.Site.state c.close.new.site)) c.self.view_is c.close.ensures.closes

pub returns-clause-says : goal.returns-clause-says
returns-clause-says g c =
    subst (λ (s : StoppedState). SpeaksOn (last_pieces s.run c.close.result.end) s.run.heard c.close.result.heard
    (g.C.Console.state c.args.console.now) (g.C.Console.state c.close.new.console)) c.self.view_is c.close.ensures.says
