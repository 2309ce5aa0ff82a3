use Rattle.turn_laws.proofs.PassLemmas.{past_is_under_way}
use Rattle.turn_laws.proofs.laws.what_is_past_is_under_way.Goals as goal

pub returns : goal.returns
returns c = past_is_under_way
