use Rattle.std.proofs.Common.{◌+◌, ◌≤◌, ap, sym, ◌∙◌, length}
use Rattle.std.specs.List.{flat_map}
use Rattle.block_list.specs.Stretches.{covered}
use Rattle.block_list.proofs.Places.{length-marked}
use Rattle.block_list.proofs.TileLemmas.{tiles_up_to}
use Rattle.plain_blocks.proofs.TilingLemmas.{tiled_from_tiling, tiling_end}
use Rattle.plain_blocks.proofs.plain_tiles.PlainTilesTiles.set.Goals as goal

pub mark-requires-clause-tiled : goal.mark-requires-clause-tiled
mark-requires-clause-tiled c = tiled_from_tiling _ c.self.invariant

pub invariant_of-self : goal.invariant_of-self
invariant_of-self c =
    let h : c.args.pos + c.args.size ≤ length (flat_map covered c.self.inside.blocks.items) = rw (← c.self.view_is) at c.requires.within in
    let e = ap length c.mark.ensures.marked ∙ length-marked _ _ _ _ h ∙ sym (tiling_end _ c.self.invariant) in
    record {
      tiled = tiles_up_to _ _ c.mark.ensures.tiled e;
      merged = c.mark.ensures.merged;
      short = c.self.invariant.short;
    }
