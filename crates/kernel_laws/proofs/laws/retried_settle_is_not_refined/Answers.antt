use Rattle.kernel_laws.proofs.Denied.{retried}
use Rattle.kernel_laws.proofs.laws.retried_settle_is_not_refined.Goals as goal

pub returns : goal.returns
returns c = retried
