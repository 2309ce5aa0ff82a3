use Rattle.rescue_phases.proofs.AlikeLemmas.{next_pass_is_alike}
use Rattle.rescue_phases.proofs.laws.a_next_pass_is_alike.Goals as goal

pub returns : goal.returns
returns c = next_pass_is_alike
