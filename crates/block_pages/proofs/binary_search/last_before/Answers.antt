use Rattle.std.proofs.Common.{arith}
use Rattle.block_pages.proofs.HalvingLemmas.{narrowed_found, narrowed_up, narrowed_down, halved_more, halved_cost}
use Rattle.block_pages.proofs.binary_search.last_before.Goals as goal

pub loop-last-preserved-then-pos-at : goal.loop-last-preserved-then-pos-at
loop-last-preserved-then-pos-at g c = record {
  narrowed = narrowed_up _ _ _ _ _ _ _ c.loop-last.invariant.narrowed (omega arith) (omega arith) c.index-xs-middle.is
      (omega (arith, c.pos.ensures));
  halved = rw c.tick.ensures (halved_more _ _ _ _ _ (omega arith) (omega arith) c.loop-last.invariant.halved);
}

pub loop-last-preserved : goal.loop-last-preserved
loop-last-preserved g c = record {
  narrowed = narrowed_down _ _ _ _ _ _ _ c.loop-last.invariant.narrowed (omega arith) (omega arith) c.index-xs-middle.is
      (omega (arith, c.pos.ensures));
  halved = rw c.tick.ensures (halved_more _ _ _ _ _ (omega arith) (omega arith) c.loop-last.invariant.halved);
}

pub returns-clause-place : goal.returns-clause-place
returns-clause-place g c =
    narrowed_found _ _ _ _ _ c.requires.sorted c.loop-last.invariant.narrowed (omega arith)

pub returns-clause-few : goal.returns-clause-few
returns-clause-few g c = halved_cost _ _ _ _ 64 c.loop-last.invariant.halved (omega arith)
