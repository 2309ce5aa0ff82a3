use Rattle.turn_laws.proofs.SafeLemmas.{run_is_held}
use Rattle.turn_laws.proofs.laws.a_run_is_held.Goals as goal

pub returns : goal.returns
returns c = run_is_held
