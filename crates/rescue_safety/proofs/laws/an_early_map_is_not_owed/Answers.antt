use Rattle.rescue_safety.proofs.EarlyLemmas.{early_map_is_not_owed}
use Rattle.rescue_safety.proofs.laws.an_early_map_is_not_owed.Goals as goal

pub returns : goal.returns
returns c = early_map_is_not_owed
