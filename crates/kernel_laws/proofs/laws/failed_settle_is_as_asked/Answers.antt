use Rattle.kernel_laws.proofs.Asked.{failed_settle_asked}
use Rattle.kernel_laws.proofs.laws.failed_settle_is_as_asked.Goals as goal

pub returns : goal.returns
returns c = failed_settle_asked
