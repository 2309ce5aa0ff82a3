use Rattle.kernel_laws.proofs.Asked.{settle_asked}
use Rattle.kernel_laws.proofs.laws.settle_is_as_asked.Goals as goal

pub returns : goal.returns
returns c = settle_asked
