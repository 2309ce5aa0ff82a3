use Rattle.std.proofs.Common.{◌∙◌, ◌++◌, ◌∷◌, [], ap}
use Rattle.block_pages.proofs.RangeLemmas.{range_more}
use Rattle.block_list.specs.Stretches.{stretches}
use Rattle.block_pages.proofs.RowLemmas.{row_copied, row_range, row_stretches}
use Rattle.block_pages.proofs.page_from_list.page_of.Goals as goal

pub loop-i-preserved : goal.loop-i-preserved
loop-i-preserved c =
    c.push.ensures ∙ ap (λ r. r ++ c.block.result ∷ []) c.loop-i.invariant ∙ range_more _ _ _ _ c.loop-i.auto.i c.block.ensures

pub push-requires-clause-row : goal.push-requires-clause-row
push-requires-clause-row c =
    row_copied [] (stretches c.args.tiles.now.statuses) _ c.args.from c.loop-i.i c.args.to _
    (row_range _ c.args.from c.args.to (row_stretches _ c.requires.short)) c.loop-i.auto.i c.loop-i-test.true c.block.ensures
    c.loop-i.invariant
