use Rattle.turn_laws.proofs.PhaseLemmas.{stopped_turns_are_held}
use Rattle.turn_laws.proofs.laws.stopped_turns_are_held.Goals as goal

pub returns : goal.returns
returns c = stopped_turns_are_held
