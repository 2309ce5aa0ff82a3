use Rattle.saved_laws.proofs.LossBounded.{loss_in}
use Rattle.saved_laws.proofs.laws.loss_is_bounded_in_any_rescue.Goals as goal

pub returns : goal.returns
returns c = loss_in
