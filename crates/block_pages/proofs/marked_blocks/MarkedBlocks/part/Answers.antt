use Rattle.std.proofs.Common.{◌∙◌, ◌++◌, ◌∷◌, [], length, ap, arith}
use Rattle.std.proofs.lemmas.List.Edits.{length-between}
use Rattle.block_pages.proofs.RangeLemmas.{range_more}
use Rattle.block_pages.proofs.marked_blocks.MarkedBlocks.part.Goals as goal

pub loop-i-preserved : goal.loop-i-preserved
loop-i-preserved c =
    c.push.ensures ∙ ap (λ r. r ++ c.block.result ∷ []) c.loop-i.invariant ∙ range_more _ _ _ _ c.loop-i.auto.i c.block.ensures

pub push-requires : goal.push-requires
push-requires c =
    omega (
      arith,
      ap length c.loop-i.invariant,
      length-between c.args.self.now c.args.from c.loop-i.i (omega (arith, c.requires.within, c.loop-i-test.true)),
      c.loop-i.auto.i,
      c.loop-i-test.true,
      c.requires.fits,
    )
