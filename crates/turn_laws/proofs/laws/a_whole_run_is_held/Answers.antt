use Rattle.turn_laws.proofs.EndLemmas.{whole_run_is_held}
use Rattle.turn_laws.proofs.laws.a_whole_run_is_held.Goals as goal

pub returns : goal.returns
returns c = whole_run_is_held
