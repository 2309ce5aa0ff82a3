use Rattle.rescue_safety.proofs.AloneLemmas.{mixed_is_chain}
use Rattle.rescue_safety.proofs.laws.a_mixed_chain_of_rescues_is_one.Goals as goal

pub returns : goal.returns
returns c = mixed_is_chain
