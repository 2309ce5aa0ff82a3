use Rattle.plain_blocks.proofs.TilingLemmas.{tiling_end}
use Rattle.plain_blocks.proofs.plain_tiles.PlainTilesTiles.end.Goals as goal

pub returns-clause-end : goal.returns-clause-end
returns-clause-end c = rw (← c.self.view_is) (tiling_end _ c.self.invariant)
