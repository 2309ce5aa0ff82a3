use Rattle.turn_laws.proofs.NowClose.{close_stays_safe_now}
use Rattle.turn_laws.proofs.laws.a_close_stays_safe_now.Goals as goal

pub returns : goal.returns
returns c = close_stays_safe_now
