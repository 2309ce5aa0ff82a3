use Rattle.block_list.proofs.StretchLemmas.{are_stretches}
use Rattle.block_list.proofs.laws.stretches_are_the_map.Goals as goal

pub returns : goal.returns
returns c = are_stretches
