use Rattle.kernel_laws.proofs.Saved.{saved}
use Rattle.kernel_laws.proofs.laws.saved_text_is_left.Goals as goal

pub returns : goal.returns
returns c = saved
