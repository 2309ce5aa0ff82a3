use Rattle.std.proofs.Common.{arith}
use Rattle.plain_blocks.proofs.RowLemmas.{row_size}
use Rattle.plain_blocks.proofs.block_row.BlockRow.len.Goals as goal

pub returns : goal.returns
returns c = omega (arith, row_size _ _ c.self.view_is c.self.invariant)
