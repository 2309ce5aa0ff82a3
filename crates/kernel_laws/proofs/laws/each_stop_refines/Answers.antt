use Rattle.kernel_laws.proofs.Refined.{each_stop}
use Rattle.kernel_laws.proofs.laws.each_stop_refines.Goals as goal

pub returns : goal.returns
returns c = each_stop
