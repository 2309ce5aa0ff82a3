use Rattle.rescue_phases.proofs.StartLemmas.{start_may_copy}
use Rattle.rescue_phases.proofs.laws.a_start_may_copy.Goals as goal

pub returns : goal.returns
returns c = start_may_copy
