use Rattle.saved_laws.proofs.CountedKept.{returned_saves_keep}
use Rattle.saved_laws.proofs.laws.returned_saves_keep.Goals as goal

pub returns : goal.returns
returns c = returned_saves_keep
