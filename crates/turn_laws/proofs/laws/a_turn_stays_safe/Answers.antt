use Rattle.turn_laws.proofs.TurnLemmas.{turn_stays_safe}
use Rattle.turn_laws.proofs.laws.a_turn_stays_safe.Goals as goal

pub returns : goal.returns
returns c = turn_stays_safe
