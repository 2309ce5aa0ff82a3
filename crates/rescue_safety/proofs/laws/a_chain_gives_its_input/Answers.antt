use Rattle.rescue_safety.proofs.InputLemmas.{chain_is_the_inputs}
use Rattle.rescue_safety.proofs.laws.a_chain_gives_its_input.Goals as goal

pub returns : goal.returns
returns c = chain_is_the_inputs
