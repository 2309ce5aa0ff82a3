use Rattle.std.proofs.Common.{◌∙◌, ◌++◌, ◌∷◌, [], ap, append_assoc, take}
use Rattle.block_pages.proofs.RangeLemmas.{front_more}
use Rattle.block_pages.proofs.RowLemmas.{row_added}
use Rattle.block_pages.proofs.page.Page.add.Goals as goal

pub loop-i-preserved : goal.loop-i-preserved
loop-i-preserved c =
    c.push.ensures
    ∙ ap (λ r. r ++ c.block.result ∷ []) c.loop-i.invariant
    ∙ append_assoc c.args.self.now (take c.loop-i.i c.args.piece.now) (c.block.result ∷ [])
    ∙ ap (λ r. c.args.self.now ++ r) (front_more _ _ _ c.block.ensures)

pub push-requires-clause-row : goal.push-requires-clause-row
push-requires-clause-row c = row_added c.args.self.now c.args.piece.now _ c.loop-i.i _ c.requires.row c.block.ensures c.loop-i.invariant
