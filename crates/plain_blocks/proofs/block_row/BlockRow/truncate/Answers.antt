use Rattle.std.proofs.Common.{arith, sym}
use Rattle.plain_blocks.proofs.RowLemmas.{row_size, rows_take}
use Rattle.plain_blocks.proofs.block_row.BlockRow.truncate.Goals as goal

pub returns-clause-items : goal.returns-clause-items
returns-clause-items c =
    rw (c.truncate.ensures.items, c.truncate-2.ensures.items, ← c.self.view_is) (sym (rows_take 0 _ _ c.args.i))

pub returns-clause-room : goal.returns-clause-room
returns-clause-room c = λ h.
    omega (arith, h, row_size _ _ c.self.view_is c.self.invariant, c.self.invariant.alike)
