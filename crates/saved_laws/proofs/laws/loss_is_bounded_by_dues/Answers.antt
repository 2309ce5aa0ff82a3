use Rattle.saved_laws.proofs.LossBounded.{loss_by_dues}
use Rattle.saved_laws.proofs.laws.loss_is_bounded_by_dues.Goals as goal

pub returns : goal.returns
returns c = loss_by_dues
