use Rattle.std.proofs.Common.{◌-◌, ◌≤◌, length, min, arith}
use Rattle.std.specs.Vec.{vec_capacity}
use Rattle.plain_blocks.proofs.RowLemmas.{row_size, rows_divide, made}
use Rattle.plain_blocks.proofs.block_row.BlockRow.divide.Goals as goal

pub insert-requires : goal.insert-requires
insert-requires c = omega (arith, c.requires.index, row_size _ _ c.self.view_is c.self.invariant)

pub insert-requires-2 : goal.insert-requires-2
insert-requires-2 c =
    omega (arith, c.requires.index, row_size _ _ c.self.view_is c.self.invariant, c.self.invariant.alike)

pub returns-clause-items : goal.returns-clause-items
returns-clause-items c =
    let room : 1 ≤ min (vec_capacity c.self.inside.ends) (vec_capacity c.self.inside.statuses) - length c.self.inside.ends.items =
    rw (← c.self.view_is) at c.requires.room in
    let e = made _ _ _ _ (c.insert.ensures.succeeds (omega (arith, room))) c.insert.ensures.items in
    let f = made _ _ _ _ (c.insert-2.ensures.succeeds (omega (arith, room, c.self.invariant.alike))) c.insert-2.ensures.items in
    rw (e, f, ← c.self.view_is) (rows_divide _ _ _ _ _ c.self.invariant.alike
    (omega (arith, c.requires.index, row_size _ _ c.self.view_is c.self.invariant))
    (rw (← c.self.view_is) at c.requires.there) c.requires.inner c.requires.reaches)
