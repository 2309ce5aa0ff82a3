use Rattle.block_list.proofs.HeldLemmas.{one_stretch_holds, stretches_meet}
use Rattle.block_list.proofs.laws.stretches_hold_positions.Goals as goal

pub returns : goal.returns
returns c = record { one = one_stretch_holds; meet = stretches_meet }
