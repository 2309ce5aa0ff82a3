use Rattle.std.proofs.Common.{IfSome, subst}
use Rattle.rescue_core.specs.RunState.{RunState, IsNext}
use Rattle.rescue_core.proofs.phases.Rescue.next_request.Goals as goal

pub returns-then-leads_up-clause-some : goal.returns-then-leads_up-clause-some
returns-then-leads_up-clause-some g c =
    subst (λ (q : RunState). IfSome c.next_lead.result (λ asked. IsNext q asked)) c.self.view_is
    c.next_lead.ensures.some

pub returns-else-leads_up-clause-some : goal.returns-else-leads_up-clause-some
returns-else-leads_up-clause-some g c =
    subst (λ (q : RunState). IfSome c.find_request.result (λ asked. IsNext q asked)) c.self.view_is
    c.find_request.ensures.some
