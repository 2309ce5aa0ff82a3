use Rattle.saved_laws.proofs.GrowLemmas.{saves_only_grow}
use Rattle.saved_laws.proofs.laws.saves_only_grow.Goals as goal

pub returns : goal.returns
returns c = saves_only_grow
