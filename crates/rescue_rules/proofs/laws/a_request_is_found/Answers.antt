use Rattle.rescue_rules.proofs.SearchLemmas.{request_found}
use Rattle.rescue_rules.proofs.laws.a_request_is_found.Goals as goal

pub returns : goal.returns
returns c = request_found
