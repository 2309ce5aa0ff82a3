-- What the invariant of a plain list says of its blocks.
use Rattle.std.proofs.Common.{◌≡◌, length, arith}
use Rattle.std.specs.List.{flat_map}
use Rattle.block_list.specs.Stretches.{covered, stretches}
use Rattle.block_list.specs.Edits.{IsTiled}
use Rattle.block_list.proofs.TileLemmas.{tiles_end, tiled_from_tiles}
use Rattle.block_list.proofs.ApartLemmas.{apart_from_merged}
use Rattle.block_list.proofs.StretchLemmas.{stretches_of_tiles}
use Rattle.plain_blocks.specs.declared.plain_tiles.PlainTiles.TheInside.{Inside}
use Rattle.plain_blocks.specs.Tiling.{IsTiling}

pub tiled_from_tiling : (t : Inside) → IsTiling t → IsTiled t.blocks.items
tiled_from_tiling t h = tiled_from_tiles t.blocks.items t.end h.tiled h.short

pub tiling_end : (t : Inside) → IsTiling t → t.end ≡ length (flat_map covered t.blocks.items)
tiling_end t h = omega (arith, tiles_end 0 t.blocks.items t.end h.tiled)

-- its blocks are the stretches of its map
pub stretches_of_tiling : (t : Inside) → IsTiling t → stretches (flat_map covered t.blocks.items) ≡ t.blocks.items
stretches_of_tiling t h = stretches_of_tiles 0 t.blocks.items t.end h.tiled (apart_from_merged t.blocks.items h.merged)
