use Rattle.rescue_rules.proofs.RequestLemmas.{one_request}
use Rattle.rescue_rules.proofs.laws.a_state_has_one_request.Goals as goal

pub returns : goal.returns
returns c = one_request
