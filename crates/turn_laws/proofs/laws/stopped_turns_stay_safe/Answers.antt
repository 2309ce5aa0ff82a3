use Rattle.turn_laws.proofs.PhaseLemmas.{stopped_turns_stay_safe}
use Rattle.turn_laws.proofs.laws.stopped_turns_stay_safe.Goals as goal

pub returns : goal.returns
returns c = stopped_turns_stay_safe
