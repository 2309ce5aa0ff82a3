use Rattle.std.proofs.Common.{arith}
use Rattle.plain_blocks.proofs.RowLemmas.{row_size, shifted_row}
use Rattle.plain_blocks.proofs.block_row.BlockRow.shift.Goals as goal

pub index_mut-requires : goal.index_mut-requires
index_mut-requires c = omega (arith, c.requires.index, row_size _ _ c.self.view_is c.self.invariant)

pub returns-clause-shifted : goal.returns-clause-shifted
returns-clause-shifted c =
    let size = row_size _ _ c.self.view_is c.self.invariant in
    rw (← c.self.view_is) (shifted_row _ _ _ _ c.self.invariant.alike (rw (← c.self.view_is) at c.requires.tiled)
    c.requires.some (omega (arith, c.requires.index, size)) (rw (← c.self.view_is) at c.requires.inner)
    (rw (← c.self.view_is) at c.requires.reaches))
