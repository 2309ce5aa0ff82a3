use Rattle.plain_blocks.proofs.TilingLemmas.{tiled_from_tiling}
use Rattle.plain_blocks.proofs.plain_tiles.PlainTilesTiles.count.Goals as goal

pub count-requires : goal.count-requires
count-requires c = tiled_from_tiling _ c.self.invariant
