use Rattle.turn_laws.proofs.TurnLemmas.{halted_turn_stays_safe}
use Rattle.turn_laws.proofs.laws.a_halted_turn_stays_safe.Goals as goal

pub returns : goal.returns
returns c = halted_turn_stays_safe
