use Rattle.rescue_domain.proofs.TestingLemmas.{front_is}
use Rattle.rescue_domain.proofs.laws.a_front_is_finished.Goals as goal

pub returns : goal.returns
returns c = front_is
