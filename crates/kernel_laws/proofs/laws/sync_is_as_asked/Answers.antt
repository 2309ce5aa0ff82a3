use Rattle.kernel_laws.proofs.Asked.{sync_asked}
use Rattle.kernel_laws.proofs.laws.sync_is_as_asked.Goals as goal

pub returns : goal.returns
returns c = sync_asked
