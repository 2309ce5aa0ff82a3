use Rattle.paged_blocks.proofs.marks.overwrite.edit_none.Goals as goal

pub refill-requires-clause-whole : goal.refill-requires-clause-whole
refill-requires-clause-whole c =
    let m = rw c.deref.ensures.value at c.first_region-region.ensures.marked in record { tiled = m.tiled; merged = m.merged }
