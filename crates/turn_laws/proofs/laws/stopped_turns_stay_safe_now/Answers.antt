use Rattle.turn_laws.proofs.NowTurns.{stopped_stays_safe_now}
use Rattle.turn_laws.proofs.laws.stopped_turns_stay_safe_now.Goals as goal

pub returns : goal.returns
returns c = stopped_stays_safe_now
