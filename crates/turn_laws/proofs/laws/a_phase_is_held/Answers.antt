use Rattle.turn_laws.proofs.PhaseLemmas.{phase_is_held}
use Rattle.turn_laws.proofs.laws.a_phase_is_held.Goals as goal

pub returns : goal.returns
returns c = phase_is_held
