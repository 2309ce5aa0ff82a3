use Rattle.sweep_rules.proofs.SweepLemmas.{filled_map_stands}
use Rattle.sweep_rules.proofs.laws.a_filled_map_stands.Goals as goal

pub returns : goal.returns
returns c = filled_map_stands
