use Rattle.turn_laws.proofs.NowTurns.{phase_stays_safe_now}
use Rattle.turn_laws.proofs.laws.a_phase_stays_safe_now.Goals as goal

pub returns : goal.returns
returns c = phase_stays_safe_now
