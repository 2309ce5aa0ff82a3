use Rattle.rescue_rules.proofs.laws.mapfile_stands_for_one_map.Goals as goal
use Rattle.rescue_rules.proofs.StandsLemmas.{stands_for_one}

pub returns : goal.returns
returns c = stands_for_one
