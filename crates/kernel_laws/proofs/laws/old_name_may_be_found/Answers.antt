use Rattle.kernel_laws.proofs.Loses.{old_name}
use Rattle.kernel_laws.proofs.laws.old_name_may_be_found.Goals as goal

pub returns : goal.returns
returns c = old_name
