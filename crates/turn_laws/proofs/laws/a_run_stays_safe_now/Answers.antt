use Rattle.turn_laws.proofs.NowRuns.{run_stays_safe_now}
use Rattle.turn_laws.proofs.laws.a_run_stays_safe_now.Goals as goal

pub returns : goal.returns
returns c = run_stays_safe_now
