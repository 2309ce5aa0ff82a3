use Rattle.std.proofs.Common.{arith}
use Rattle.plain_blocks.proofs.RowLemmas.{row_size, block_read}
use Rattle.plain_blocks.proofs.block_row.BlockRow.block.Goals as goal

pub index-requires : goal.index-requires
index-requires c = omega (arith, c.requires, row_size _ _ c.self.view_is c.self.invariant)

pub index-requires-2 : goal.index-requires-2
index-requires-2 c = omega (arith, c.requires, row_size _ _ c.self.view_is c.self.invariant, c.self.invariant.alike)

pub returns : goal.returns
returns c =
    rw (← c.self.view_is) (block_read _ _ _ _ _ c.index.result.now _ c.self.invariant.alike
    (omega (arith, c.requires, row_size _ _ c.self.view_is c.self.invariant))
    (rw (← c.self.view_is) at c.start-pos.ensures) c.index.ensures c.saturating_sub.ensures c.index-2.ensures)
