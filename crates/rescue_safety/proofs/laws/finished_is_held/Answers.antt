use Rattle.rescue_safety.proofs.HoldsLemmas.{finished_is_held}
use Rattle.rescue_safety.proofs.laws.finished_is_held.Goals as goal

pub returns : goal.returns
returns c = finished_is_held
