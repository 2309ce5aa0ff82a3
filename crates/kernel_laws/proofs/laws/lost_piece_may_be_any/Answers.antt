use Rattle.kernel_laws.proofs.Loses.{lost_piece}
use Rattle.kernel_laws.proofs.laws.lost_piece_may_be_any.Goals as goal

pub returns : goal.returns
returns c = lost_piece
