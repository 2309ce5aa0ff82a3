use Rattle.turn_laws.proofs.EndLemmas.{phases_end_well}
use Rattle.turn_laws.proofs.laws.phases_end_well.Goals as goal

pub returns : goal.returns
returns c = phases_end_well
