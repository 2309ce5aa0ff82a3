use Rattle.std.proofs.Common.{◌∙◌, ◌++◌, ◌∷◌, [], ap, append_assoc, take}
use Rattle.block_pages.proofs.RangeLemmas.{front_more}
use Rattle.block_pages.proofs.moved_blocks.MovedBlocks.append.Goals as goal

pub loop-i-preserved : goal.loop-i-preserved
loop-i-preserved c =
    c.push.ensures
    ∙ ap (λ r. r ++ c.block.result ∷ []) c.loop-i.invariant
    ∙ append_assoc c.args.self.now (take c.loop-i.i c.args.others.now) (c.block.result ∷ [])
    ∙ ap (λ r. c.args.self.now ++ r) (front_more _ _ _ c.block.ensures)
