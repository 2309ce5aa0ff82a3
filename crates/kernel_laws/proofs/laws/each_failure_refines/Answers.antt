use Rattle.kernel_laws.proofs.Refined.{each_failure}
use Rattle.kernel_laws.proofs.laws.each_failure_refines.Goals as goal

pub returns : goal.returns
returns c = each_failure
