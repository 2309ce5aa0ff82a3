use Rattle.rescue_safety.proofs.AloneLemmas.{chain_is_mixed}
use Rattle.rescue_safety.proofs.laws.a_chain_is_mixed.Goals as goal

pub returns : goal.returns
returns c = chain_is_mixed
