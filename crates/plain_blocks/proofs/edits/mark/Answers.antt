use Rattle.std.proofs.Common.{arith, refl}
use Rattle.block_list.proofs.TileLemmas.{tile_read}
use Rattle.plain_blocks.proofs.ShiftLemmas.{rose_over, fell_over}
use Rattle.plain_blocks.proofs.edits.mark.Goals as goal

pub overflow_add-back : goal.overflow_add-back
overflow_add-back c =
    let r = tile_read _ _ _ c.requires.tiled (omega arith) c.block-back.ensures in
    omega (arith, r.short)

pub returns-then-is-clause-marked : goal.returns-then-is-clause-marked
returns-then-is-clause-marked c =
    rose_over _ _ _ _ c.args.block c.block-front.result c.block-back.result c.requires.tiled c.if-i-gt0.true
    (omega arith) c.requires.some
    c.shift.ensures.shifted c.block-front.ensures c.block-back.ensures c.if-back-block.true refl
    (c.is.ensures.0 c.if-is.true)

pub shift-requires-then-is-2-clause-reaches : goal.shift-requires-then-is-2-clause-reaches
shift-requires-then-is-2-clause-reaches c =
    let r = tile_read _ _ _ c.requires.tiled (omega arith) c.block-back.ensures in
    omega (arith, r.begins, r.ends)

pub returns-then-is-2-clause-marked : goal.returns-then-is-2-clause-marked
returns-then-is-2-clause-marked c =
    fell_over _ _ _ c.args.block c.block-back.result c.requires.tiled (omega arith) c.requires.some
    c.shift-then-is-2.ensures.shifted c.block-back.ensures c.if-back-end.true
    (c.is-then-back-end.ensures.0 c.if-is-2.true)
