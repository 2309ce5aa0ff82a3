-- How a plain list is kept. For contracts and proofs: no promise uses it.
use Rattle.std.specs.Prelude.{◌<◌, ◌^◌}
use Rattle.block_list.specs.Tiling.{AreTiles, IsMerged}
use Rattle.plain_blocks.specs.declared.plain_tiles.PlainTiles.TheInside.{Inside}

-- how a block list is kept: merged blocks from 0 up to its end
pub record IsTiling (t : Inside) : Type 0 where
  pub tiled : AreTiles 0 t.blocks.items t.end
  pub merged : IsMerged t.blocks.items
  pub short : t.end < 2 ^ 63
