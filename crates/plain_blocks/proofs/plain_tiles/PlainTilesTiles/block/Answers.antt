use Rattle.std.proofs.Common.{◌<◌, length, refl, arith}
use Rattle.std.proofs.lemmas.Option.{slice_get_read}
use Rattle.plain_blocks.proofs.TilingLemmas.{stretches_of_tiling}
use Rattle.plain_blocks.proofs.plain_tiles.PlainTilesTiles.block.Goals as goal

pub block-requires : goal.block-requires
block-requires c =
    let h : c.args.i < length c.self.inside.blocks.items = rw (← c.self.view_is, stretches_of_tiling _ c.self.invariant) at c.requires in
    omega arith

pub returns : goal.returns
returns c =
    let h : c.args.i < length c.self.inside.blocks.items = rw (← c.self.view_is, stretches_of_tiling _ c.self.invariant) at c.requires in
    rw (← c.self.view_is, stretches_of_tiling _ c.self.invariant) (slice_get_read _ _ _ _ refl h c.block.ensures)
