use Rattle.kernel_laws.proofs.Loses.{unsynced_write}
use Rattle.kernel_laws.proofs.laws.unsynced_write_may_be_missing.Goals as goal

pub returns : goal.returns
returns c = unsynced_write
