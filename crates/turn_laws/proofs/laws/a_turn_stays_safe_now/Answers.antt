use Rattle.turn_laws.proofs.NowTurns.{turn_stays_safe_now}
use Rattle.turn_laws.proofs.laws.a_turn_stays_safe_now.Goals as goal

pub returns : goal.returns
returns c = turn_stays_safe_now
