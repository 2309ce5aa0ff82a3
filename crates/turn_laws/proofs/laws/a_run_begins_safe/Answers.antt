use Rattle.turn_laws.proofs.SafeLemmas.{rest_is_safe}
use Rattle.turn_laws.proofs.laws.a_run_begins_safe.Goals as goal

pub returns : goal.returns
returns c = rest_is_safe
