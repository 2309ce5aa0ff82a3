use Rattle.crash_site.proofs.RetryLemmas.{retried_loses}
use Rattle.crash_site.proofs.laws.retried_sync_may_lose.Goals as goal

pub returns : goal.returns
returns c = retried_loses
