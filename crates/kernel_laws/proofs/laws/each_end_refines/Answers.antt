use Rattle.kernel_laws.proofs.Refined.{each_end}
use Rattle.kernel_laws.proofs.laws.each_end_refines.Goals as goal

pub returns : goal.returns
returns c = each_end
