use Rattle.rescue_safety.proofs.InputLemmas.{next_may_be_left}
use Rattle.rescue_safety.proofs.laws.what_is_found_next_may_be_left.Goals as goal

pub returns : goal.returns
returns c = next_may_be_left
