use Rattle.rescue_rules.proofs.SearchLemmas.{request_seen}
use Rattle.rescue_rules.proofs.laws.a_request_is_seen.Goals as goal

pub returns : goal.returns
returns c = request_seen
