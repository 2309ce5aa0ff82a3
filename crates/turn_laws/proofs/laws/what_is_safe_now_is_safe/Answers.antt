use Rattle.turn_laws.proofs.NowRuns.{now_is_safe}
use Rattle.turn_laws.proofs.laws.what_is_safe_now_is_safe.Goals as goal

pub returns : goal.returns
returns c = now_is_safe
