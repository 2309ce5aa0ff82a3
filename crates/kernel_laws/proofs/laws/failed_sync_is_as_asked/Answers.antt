use Rattle.kernel_laws.proofs.Asked.{failed_sync_asked}
use Rattle.kernel_laws.proofs.laws.failed_sync_is_as_asked.Goals as goal

pub returns : goal.returns
returns c = failed_sync_asked
