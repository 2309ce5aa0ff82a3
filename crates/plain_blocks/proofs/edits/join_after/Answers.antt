use Rattle.std.proofs.Common.{arith}
use Rattle.block_list.proofs.TileLemmas.{tile_read}
use Rattle.plain_blocks.proofs.EditLemmas.{joined_after, apart_after}
use Rattle.plain_blocks.proofs.edits.join_after.Goals as goal

pub overflow_add-wide : goal.overflow_add-wide
overflow_add-wide c =
    let r = tile_read _ _ _ c.requires.tiled (omega arith) c.block-after.ensures in
    omega (arith, r.begins, r.short, c.requires.ends)

pub returns-then-is : goal.returns-then-is
returns-then-is c =
    joined_after c.args.blocks.now.items _ c.args.block _ (omega arith)
    c.block-after.ensures c.requires.tiled c.requires.ends
    (c.is.ensures.0 c.if-is.true)

pub returns-else-is : goal.returns-else-is
returns-else-is c =
    apart_after c.args.blocks.now.items _ c.args.block _ (omega arith)
    c.block-after.ensures c.requires.ends (λ e. let t = c.is.ensures.1 e in cc)
