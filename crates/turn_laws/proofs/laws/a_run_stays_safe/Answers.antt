use Rattle.turn_laws.proofs.SafeLemmas.{run_stays_safe}
use Rattle.turn_laws.proofs.laws.a_run_stays_safe.Goals as goal

pub returns : goal.returns
returns c = run_stays_safe
