use Rattle.kernel_laws.proofs.Refined.{each_call}
use Rattle.kernel_laws.proofs.laws.each_call_refines.Goals as goal

pub returns : goal.returns
returns c = each_call
