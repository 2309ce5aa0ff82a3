use Rattle.turn_laws.proofs.PhaseLemmas.{alike_are_safe}
use Rattle.turn_laws.proofs.laws.alike_states_are_safe_alike.Goals as goal

pub returns : goal.returns
returns c = alike_are_safe
