use Rattle.turn_laws.proofs.TurnLemmas.{turn_is_held}
use Rattle.turn_laws.proofs.laws.a_turn_is_held.Goals as goal

pub returns : goal.returns
returns c = turn_is_held
