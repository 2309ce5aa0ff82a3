use Rattle.turn_laws.proofs.WellLemmas.{start_is_under_way}
use Rattle.turn_laws.proofs.laws.a_start_is_under_way.Goals as goal

pub returns : goal.returns
returns c = start_is_under_way
