use Rattle.ddrescue_laws.proofs.ThereLemmas.{maps_are_there}
use Rattle.ddrescue_laws.proofs.laws.maps_are_there.Goals as goal

pub returns : goal.returns
returns c = maps_are_there
