use Rattle.rescue_safety.proofs.AskedLemmas.{none_is_read_again}
use Rattle.rescue_safety.proofs.laws.none_is_read_again.Goals as goal

pub returns : goal.returns
returns c = none_is_read_again
