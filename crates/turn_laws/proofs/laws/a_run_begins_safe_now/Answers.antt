use Rattle.turn_laws.proofs.NowLemmas.{rest_is_safe_now}
use Rattle.turn_laws.proofs.laws.a_run_begins_safe_now.Goals as goal

pub returns : goal.returns
returns c = rest_is_safe_now
