use Rattle.rescue_safety.proofs.EarlyLemmas.{unwritten_map_is_not_owed}
use Rattle.rescue_safety.proofs.laws.an_unwritten_map_is_not_owed.Goals as goal

pub returns : goal.returns
returns c = unwritten_map_is_not_owed
