use Rattle.kernel_laws.proofs.Loses.{unsynced_end}
use Rattle.kernel_laws.proofs.laws.unsynced_end_may_be_any.Goals as goal

pub returns : goal.returns
returns c = unsynced_end
