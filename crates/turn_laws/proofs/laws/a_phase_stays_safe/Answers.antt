use Rattle.turn_laws.proofs.PhaseLemmas.{phase_stays_safe}
use Rattle.turn_laws.proofs.laws.a_phase_stays_safe.Goals as goal

pub returns : goal.returns
returns c = phase_stays_safe
