use Rattle.turn_laws.proofs.EndLemmas.{stopped_is_saved}
use Rattle.turn_laws.proofs.laws.a_stopped_run_is_saved.Goals as goal

pub returns : goal.returns
returns c = stopped_is_saved
