use Rattle.std.proofs.Common.{arith}
use Rattle.block_pages.proofs.TallyLemmas.{range_tally, range_fits}
use Rattle.block_pages.proofs.page_entry.tally_of.Goals as goal

pub add-requires : goal.add-requires
add-requires c =
    omega (
      arith,
      range_fits c.args.page.now c.args.from c.loop-i.i c.block-block.result c.loop-i.tally (omega arith)
          c.block-block.ensures c.loop-i.invariant,
      c.requires.short,
    )

pub loop-i-preserved : goal.loop-i-preserved
loop-i-preserved c =
    range_tally c.args.page.now c.args.from c.loop-i.i c.block-block.result c.loop-i.tally c.add.new.self (omega arith)
    c.block-block.ensures c.loop-i.invariant c.add.ensures.counted c.add.ensures.others
