use Rattle.block_list.proofs.AreaLemmas.{areas_are_intervals}
use Rattle.block_list.proofs.laws.areas_are_intervals.Goals as goal

pub returns : goal.returns
returns c = areas_are_intervals
