use Rattle.std.proofs.Common.{◌∙◌, ◌++◌, ◌∷◌, [], ap}
use Rattle.block_pages.proofs.RangeLemmas.{range_more}
use Rattle.block_pages.proofs.RowLemmas.{row_copied}
use Rattle.block_pages.proofs.moved_blocks.MovedBlocks.page.Goals as goal

pub loop-i-preserved : goal.loop-i-preserved
loop-i-preserved c =
    c.push.ensures ∙ ap (λ r. r ++ c.block.result ∷ []) c.loop-i.invariant ∙ range_more _ _ _ _ c.loop-i.auto.i c.block.ensures

pub push-requires-clause-row : goal.push-requires-clause-row
push-requires-clause-row c =
    row_copied [] c.args.self.now _ c.args.from c.loop-i.i c.args.to _ c.requires.row c.loop-i.auto.i c.loop-i-test.true
    c.block.ensures c.loop-i.invariant
