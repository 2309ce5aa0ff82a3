use Rattle.rescue_safety.proofs.LastGiven.{given_is_last}
use Rattle.rescue_safety.proofs.laws.given_is_the_last_pair.Goals as goal

pub returns : goal.returns
returns c = given_is_last
