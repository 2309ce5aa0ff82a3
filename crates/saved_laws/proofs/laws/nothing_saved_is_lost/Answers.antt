use Rattle.saved_laws.proofs.SavedLemmas.{nothing_saved_is_lost}
use Rattle.saved_laws.proofs.laws.nothing_saved_is_lost.Goals as goal

pub returns : goal.returns
returns c = nothing_saved_is_lost
