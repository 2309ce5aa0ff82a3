use Rattle.turn_laws.proofs.WellLemmas.{since_start_is_well}
use Rattle.turn_laws.proofs.laws.what_is_well_since_the_start_is_well.Goals as goal

pub returns : goal.returns
returns c = since_start_is_well
