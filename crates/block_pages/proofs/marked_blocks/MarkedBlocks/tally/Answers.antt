use Rattle.std.proofs.Common.{arith}
use Rattle.block_pages.proofs.TallyLemmas.{tally_step, tally_fits}
use Rattle.block_pages.proofs.marked_blocks.MarkedBlocks.tally.Goals as goal

pub add-requires : goal.add-requires
add-requires c =
    omega (
      arith,
      tally_fits c.args.self.now c.loop-i.i c.block-block.result c.loop-i.tally c.block-block.ensures c.loop-i.invariant,
      c.requires,
    )

pub loop-i-preserved : goal.loop-i-preserved
loop-i-preserved c =
    tally_step c.args.self.now c.loop-i.i c.block-block.result c.loop-i.tally c.add.new.self c.block-block.ensures
    c.loop-i.invariant c.add.ensures.counted c.add.ensures.others
