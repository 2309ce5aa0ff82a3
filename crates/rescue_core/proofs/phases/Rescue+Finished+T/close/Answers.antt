use Rattle.std.proofs.Common.{None, subst}
use Rattle.rescue_console.specs.Speaking.{SpeaksOn}
use Rattle.rescue_core.specs.RunState.{RunState}
use Rattle.rescue_core.specs.Closing.{Closes, last_pieces}
use Rattle.rescue_core.proofs.phases.Rescue+Finished+T.close.Goals as goal

pub returns-clause-closes : goal.returns-clause-closes
returns-clause-closes g c =
    subst (λ (r : RunState). Closes None r c.close.result.end (g.D.Site.state c.args.site.now)
    (g.D.Site.state c.close.new.site)) c.self.view_is c.close.ensures.closes

pub returns-clause-says : goal.returns-clause-says
returns-clause-says g c =
    subst (λ (r : RunState). SpeaksOn (last_pieces r c.close.result.end) r.heard c.close.result.heard
    (g.C.Console.state c.args.console.now) (g.C.Console.state c.close.new.console)) c.self.view_is c.close.ensures.says
