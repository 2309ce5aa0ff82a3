use Rattle.turn_laws.proofs.NowTurns.{halted_stays_safe_now}
use Rattle.turn_laws.proofs.laws.a_halted_turn_stays_safe_now.Goals as goal

pub returns : goal.returns
returns c = halted_stays_safe_now
