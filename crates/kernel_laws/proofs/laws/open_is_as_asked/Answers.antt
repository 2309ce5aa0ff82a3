use Rattle.kernel_laws.proofs.Asked.{open_asked}
use Rattle.kernel_laws.proofs.laws.open_is_as_asked.Goals as goal

pub returns : goal.returns
returns c = open_asked
