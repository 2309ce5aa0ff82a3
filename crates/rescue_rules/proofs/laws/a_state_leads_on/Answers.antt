use Rattle.rescue_rules.proofs.ReadyLemmas.{state_leads_on}
use Rattle.rescue_rules.proofs.laws.a_state_leads_on.Goals as goal

pub returns : goal.returns
returns c = state_leads_on
