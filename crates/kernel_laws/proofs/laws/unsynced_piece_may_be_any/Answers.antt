use Rattle.kernel_laws.proofs.Loses.{unsynced_piece}
use Rattle.kernel_laws.proofs.laws.unsynced_piece_may_be_any.Goals as goal

pub returns : goal.returns
returns c = unsynced_piece
