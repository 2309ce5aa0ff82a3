use Rattle.std.proofs.Common.{arith}
use Rattle.paged_blocks.proofs.ShortListLemmas.{some_stretch, all_searched_place, last_after}
use Rattle.paged_blocks.proofs.short_list.begun_before.Goals as goal

pub overflow_sub-last : goal.overflow_sub-last
overflow_sub-last g c = omega (arith, some_stretch _ _ c.requires.some c.requires.within, c.blocks-last.ensures)

pub block-requires : goal.block-requires
block-requires g c = omega (arith, some_stretch _ _ c.requires.some c.requires.within, c.blocks-last.ensures)

pub returns-then-block-at-clause-place : goal.returns-then-block-at-clause-place
returns-then-block-at-clause-place g c =
    all_searched_place _ _ _ _ c.requires.short c.requires.within
    (omega (arith, some_stretch _ _ c.requires.some c.requires.within, c.blocks-last.ensures)) c.block.ensures c.if-block-at.true

pub begun_in_front-requires-clause-front : goal.begun_in_front-requires-clause-front
begun_in_front-requires-clause-front g c =
    last_after c.args.tiles.now.statuses _ _ _ c.requires.short
    (omega (arith, some_stretch _ _ c.requires.some c.requires.within, c.blocks-last.ensures)) c.block.ensures (omega arith)
