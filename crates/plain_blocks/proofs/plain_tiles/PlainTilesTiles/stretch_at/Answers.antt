use Rattle.std.proofs.Common.{◌+◌, ◌<◌, length, arith}
use Rattle.std.specs.List.{flat_map}
use Rattle.block_list.specs.Stretches.{covered}
use Rattle.block_list.specs.Edits.{IsPlace}
use Rattle.plain_blocks.proofs.LookupLemmas.{stretch_held}
use Rattle.plain_blocks.proofs.TilingLemmas.{tiled_from_tiling}
use Rattle.plain_blocks.proofs.plain_tiles.PlainTilesTiles.stretch_at.Goals as goal

pub overflow_add-x : goal.overflow_add-x
overflow_add-x c =
    let h : c.args.x < length (flat_map covered c.self.inside.blocks.items) = rw (← c.self.view_is) at c.requires in
    omega (arith, (tiled_from_tiling _ c.self.invariant).short)

pub begun_before-after-requires-clause-tiled : goal.begun_before-after-requires-clause-tiled
begun_before-after-requires-clause-tiled c = tiled_from_tiling _ c.self.invariant

pub returns : goal.returns
returns c =
    let p : IsPlace c.self.inside.blocks.items (c.args.x + 1) c.begun_before-after.result =
    c.begun_before-after.ensures in
    rw (← c.self.view_is) (stretch_held _ _ _ _ (tiled_from_tiling _ c.self.invariant) c.self.invariant.merged p c.block.ensures)
