use Rattle.turn_laws.proofs.WayLemmas.{next_pass_is_under_way}
use Rattle.turn_laws.proofs.laws.a_next_pass_is_under_way.Goals as goal

pub returns : goal.returns
returns c = next_pass_is_under_way
