use Rattle.turn_laws.proofs.PassLemmas.{copying_is_under_way}
use Rattle.turn_laws.proofs.laws.what_may_copy_is_under_way.Goals as goal

pub returns : goal.returns
returns c = copying_is_under_way
