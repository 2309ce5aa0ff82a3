use Rattle.std.proofs.Common.{arith}
use Rattle.block_list.proofs.TileLemmas.{start_le_end}
use Rattle.plain_blocks.proofs.RowLemmas.{row_size, rows_fuse}
use Rattle.plain_blocks.proofs.block_row.BlockRow.fuse.Goals as goal

pub overflow_add-block : goal.overflow_add-block
overflow_add-block c =
    omega (arith, c.requires.ends, start_le_end c.args.self.now.items c.args.j, c.requires.tiled.short)

pub fuse_values-requires-clause-within : goal.fuse_values-requires-clause-within
fuse_values-requires-clause-within c =
    omega (arith, c.requires.within, row_size _ _ c.self.view_is c.self.invariant)

pub fuse_values-requires-2-clause-within : goal.fuse_values-requires-2-clause-within
fuse_values-requires-2-clause-within c =
    omega (arith, c.requires.within, row_size _ _ c.self.view_is c.self.invariant, c.self.invariant.alike)

pub returns-clause-items : goal.returns-clause-items
returns-clause-items c =
    rw (c.fuse_values.ensures.items, c.fuse_values-2.ensures.items, ← c.self.view_is)
    (rows_fuse _ _ _ _ _ c.self.invariant.alike c.requires.order
    (omega (arith, c.requires.within, row_size _ _ c.self.view_is c.self.invariant))
    (rw (← c.self.view_is) at c.requires.tiled) (rw (← c.self.view_is) at c.requires.starts)
    (rw (← c.self.view_is) at c.requires.ends))
