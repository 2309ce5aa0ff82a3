use Rattle.block_list.proofs.HeldLemmas.{stretches_go_on}
use Rattle.block_list.proofs.laws.stretches_go_on.Goals as goal

pub returns : goal.returns
returns c = stretches_go_on
