use Rattle.std.proofs.Common.{◌≤◌, length, arith, ap}
use Rattle.std.specs.List.{flat_map}
use Rattle.block_list.specs.Stretches.{covered, stretches}
use Rattle.plain_blocks.proofs.EditLemmas.{rising}
use Rattle.block_list.proofs.StretchLemmas.{stretches_covered}
use Rattle.block_pages.proofs.HalvingLemmas.{narrowed_found, narrowed_up, narrowed_down, halved_first, halved_more, halved_cost}
use Rattle.block_pages.proofs.RowLemmas.{stretches_tiled}
use Rattle.paged_blocks.proofs.ShortListLemmas.{place_searched, block_read, front_stretch, front_within, narrowed_front}
use Rattle.paged_blocks.proofs.short_list.begun_in_front.Goals as goal

pub overflow_sub-end : goal.overflow_sub-end
overflow_sub-end g c = omega (arith, front_stretch c.args.tiles.now.statuses c.args.at c.requires.some c.requires.front, c.blocks-end.ensures)

pub loop-last-init : goal.loop-last-init
loop-last-init g c = record {
  narrowed = narrowed_front c.args.tiles.now.statuses _ _ c.requires.short c.requires.some c.requires.front
      (omega (arith, c.blocks-end.ensures));
  halved = halved_first _ _ _ (omega (arith, c.blocks-end.ensures));
}

pub loop-last-preserved-then-block-at : goal.loop-last-preserved-then-block-at
loop-last-preserved-then-block-at g c = record {
  narrowed = narrowed_up _ _ _ _ _ _ _ c.loop-last.invariant.narrowed (omega arith) (omega arith)
      (block_read (stretches c.args.tiles.now.statuses) _ _ c.block.ensures) (omega arith);
  halved = rw c.tick.ensures (halved_more _ _ _ _ _ (omega arith) (omega arith) c.loop-last.invariant.halved);
}

pub loop-last-preserved : goal.loop-last-preserved
loop-last-preserved g c = record {
  narrowed = narrowed_down _ _ _ _ _ _ _ c.loop-last.invariant.narrowed (omega arith) (omega arith)
      (block_read (stretches c.args.tiles.now.statuses) _ _ c.block.ensures) (omega arith);
  halved = rw c.tick.ensures (halved_more _ _ _ _ _ (omega arith) (omega arith) c.loop-last.invariant.halved);
}

pub returns-clause-place : goal.returns-clause-place
returns-clause-place g c =
    let t = stretches_tiled _ c.requires.short in
    let w : c.args.at ≤ length (flat_map covered (stretches c.args.tiles.now.statuses)) =
    omega (arith, ap length (stretches_covered 0 c.args.tiles.now.statuses), front_within c.args.tiles.now.statuses _ c.requires.front) in
    place_searched _ _ _ t w (narrowed_found _ _ _ _ _ (rising _ t) c.loop-last.invariant.narrowed (omega arith))

pub returns-clause-cost : goal.returns-clause-cost
returns-clause-cost g c = omega (arith, halved_cost _ _ _ _ 7 c.loop-last.invariant.halved (omega arith))
