use Rattle.turn_laws.proofs.WellLemmas.{under_way_ends_well}
use Rattle.turn_laws.proofs.laws.a_run_under_way_ends_well.Goals as goal

pub returns : goal.returns
returns c = under_way_ends_well
