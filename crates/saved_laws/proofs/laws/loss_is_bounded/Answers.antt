use Rattle.saved_laws.proofs.LossBounded.{loss_is_bounded}
use Rattle.saved_laws.proofs.laws.loss_is_bounded.Goals as goal

pub returns : goal.returns
returns c = loss_is_bounded
