use Rattle.std.proofs.Common.{◌∙◌, ◌++◌, ◌∷◌, [], length, ap, arith, append_assoc, slice_range}
use Rattle.std.proofs.lemmas.List.{length_push}
use Rattle.block_pages.proofs.RangeLemmas.{range_more}
use Rattle.block_pages.proofs.moved_blocks.MovedBlocks.copy.Goals as goal

pub loop-i-preserved : goal.loop-i-preserved
loop-i-preserved c =
    record {
      copied = c.push.ensures
          ∙ ap (λ r. r ++ c.block.result ∷ []) c.loop-i.invariant.copied
          ∙ append_assoc c.args.self.now (slice_range c.args.page.now c.args.from c.loop-i.i) (c.block.result ∷ [])
          ∙ ap (λ r. c.args.self.now ++ r) (range_more _ _ _ _ c.loop-i.auto.i c.block.ensures);
      len = omega (
        arith,
        ap length c.push.ensures,
        length_push c.loop-i.self c.block.result,
        c.loop-i.invariant.len,
        c.loop-i.auto.i,
      );
    }
