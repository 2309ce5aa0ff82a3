use Rattle.turn_laws.proofs.WayLemmas.{run_stays_under_way}
use Rattle.turn_laws.proofs.laws.a_run_stays_under_way.Goals as goal

pub returns : goal.returns
returns c = run_stays_under_way
