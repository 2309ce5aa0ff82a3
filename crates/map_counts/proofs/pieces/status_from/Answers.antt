use Rattle.std.proofs.Common.{arith}
use Rattle.block_list.proofs.HeldLemmas.{stretch_within}
use Rattle.map_counts.proofs.WalkLemmas.{constant_in, constant_past}
use Rattle.map_counts.proofs.pieces.status_from.Goals as goal

pub overflow_add-block : goal.overflow_add-block
overflow_add-block g c =
    omega (arith, stretch_within _ _ c.stretch_near-block.ensures.stretch, c.end.ensures.end, c.end.ensures.short)

pub returns-then-end-x-clause-stretch : goal.returns-then-end-x-clause-stretch
returns-then-end-x-clause-stretch g c = constant_past _ _ _ (omega arith) (omega arith)

pub returns-clause-stretch : goal.returns-clause-stretch
returns-clause-stretch g c =
    constant_in _ _ _ _ c.stretch_near-block.ensures (omega (arith, c.stretch_near-block.ensures.holds)) (omega arith)
