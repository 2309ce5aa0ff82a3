use Rattle.rescue_safety.proofs.EarlyLemmas.{retried_sync_is_not_owed}
use Rattle.rescue_safety.proofs.laws.a_retried_sync_is_not_owed.Goals as goal

pub returns : goal.returns
returns c = retried_sync_is_not_owed
