use Rattle.std.proofs.Common.{rules}
use Rattle.rescue_sample.proofs.SampleLemmas.{drawn_more}
use Rattle.rescue_sample.proofs.draw.draw_sectors.Goals as goal

pub loop-value-preserved : goal.loop-value-preserved
loop-value-preserved c = record {
  few = search rules;
  all = drawn_more c.args.kib c.loop-value.value c.draw-value.result c.sector_of.result c.loop-value.sectors.items
      c.push.new.self.items (search rules) c.sector_of.ensures c.draw-value.ensures c.loop-value.invariant.all;
}
