use Rattle.rescue_rules.proofs.StopsLemmas.{rescue_stops_by}
use Rattle.rescue_rules.proofs.laws.a_rescue_is_one_run_of_many.Goals as goal

pub returns : goal.returns
returns c = rescue_stops_by
