use Rattle.ddrescue_laws.proofs.GivenLemmas.{given_is_input}
use Rattle.ddrescue_laws.proofs.laws.given_is_the_inputs.Goals as goal

pub returns : goal.returns
returns c = given_is_input
