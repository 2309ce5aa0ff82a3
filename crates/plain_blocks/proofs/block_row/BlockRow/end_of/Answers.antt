use Rattle.std.proofs.Common.{◌∙◌, arith}
use Rattle.plain_blocks.proofs.RowLemmas.{row_size, end_row}
use Rattle.plain_blocks.proofs.block_row.BlockRow.end_of.Goals as goal

pub index-requires : goal.index-requires
index-requires c = omega (arith, c.requires.index, row_size _ _ c.self.view_is c.self.invariant)

pub returns : goal.returns
returns c =
    rw (← c.self.view_is) (c.index.ensures ∙ end_row _ _ _ _ c.self.invariant.alike
    (omega (arith, c.requires.index, row_size _ _ c.self.view_is c.self.invariant))
    (rw (← c.self.view_is) at c.requires.tiled))
