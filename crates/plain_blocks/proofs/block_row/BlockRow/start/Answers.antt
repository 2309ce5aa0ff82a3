use Rattle.std.proofs.Common.{arith}
use Rattle.plain_blocks.proofs.RowLemmas.{row_size, begins_after, begins_first}
use Rattle.plain_blocks.proofs.block_row.BlockRow.start.Goals as goal

pub index-requires : goal.index-requires
index-requires c = omega (arith, c.requires, row_size _ _ c.self.view_is c.self.invariant)

pub returns-then-i-gt0 : goal.returns-then-i-gt0
returns-then-i-gt0 c = λ d.
    rw (← c.self.view_is) (begins_after _ _ _ _ d c.self.invariant.alike c.if-i-gt0.true
    (omega (arith, c.requires, row_size _ _ c.self.view_is c.self.invariant)) c.index.ensures)

pub returns-else-i-gt0 : goal.returns-else-i-gt0
returns-else-i-gt0 c = λ d.
    rw (← c.self.view_is) (begins_first _ _ _ d c.self.invariant.alike (omega arith)
    (omega (arith, c.requires, row_size _ _ c.self.view_is c.self.invariant)))
