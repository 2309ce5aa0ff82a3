use Rattle.std.proofs.Common.{◌+◌}
use Rattle.block_list.specs.Edits.{IsPlace}
use Rattle.plain_blocks.proofs.LookupLemmas.{stretch_held}
use Rattle.plain_blocks.proofs.TilingLemmas.{tiled_from_tiling}
use Rattle.plain_blocks.proofs.plain_tiles.PlainTilesTiles.stretch_near.Goals as goal

pub begun_near-begun-requires-clause-tiled : goal.begun_near-begun-requires-clause-tiled
begun_near-begun-requires-clause-tiled c = tiled_from_tiling _ c.self.invariant

pub returns : goal.returns
returns c =
    let p : IsPlace c.self.inside.blocks.items (c.args.x + 1) c.begun_near-begun.result = c.begun_near-begun.ensures in
    rw (← c.self.view_is) (stretch_held _ _ _ _ (tiled_from_tiling _ c.self.invariant) c.self.invariant.merged p c.block.ensures)
