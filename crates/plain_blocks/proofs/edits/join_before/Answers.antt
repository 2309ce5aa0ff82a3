use Rattle.std.proofs.Common.{arith}
use Rattle.plain_blocks.proofs.EditLemmas.{joined_before, apart_before}
use Rattle.plain_blocks.proofs.edits.join_before.Goals as goal

pub returns-then-is : goal.returns-then-is
returns-then-is c =
    joined_before c.args.blocks.now.items _ _ c.args.block _ (omega arith) c.requires.index
    c.block-before.ensures c.requires.tiled c.requires.starts
    (c.is.ensures.0 c.if-is.true)

pub returns-else-is : goal.returns-else-is
returns-else-is c =
    apart_before c.args.blocks.now.items _ _ c.args.block _ (omega arith) c.requires.index
    c.block-before.ensures c.requires.starts (λ e. let t = c.is.ensures.1 e in cc)
