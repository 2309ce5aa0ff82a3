use Rattle.block_list.proofs.AreaLemmas.{areas_change_within}
use Rattle.block_list.proofs.laws.areas_change_within.Goals as goal

pub returns : goal.returns
returns c = areas_change_within
