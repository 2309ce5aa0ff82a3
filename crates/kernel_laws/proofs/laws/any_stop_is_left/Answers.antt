use Rattle.kernel_laws.proofs.AnyStop.{any_stop_is_left}
use Rattle.kernel_laws.proofs.laws.any_stop_is_left.Goals as goal

pub returns : goal.returns
returns c = any_stop_is_left
