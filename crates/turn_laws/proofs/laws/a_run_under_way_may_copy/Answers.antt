use Rattle.turn_laws.proofs.PassLemmas.{under_way_may_copy}
use Rattle.turn_laws.proofs.laws.a_run_under_way_may_copy.Goals as goal

pub returns : goal.returns
returns c = under_way_may_copy
