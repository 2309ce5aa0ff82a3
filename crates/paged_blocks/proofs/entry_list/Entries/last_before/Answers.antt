use Rattle.std.proofs.Common.{arith}
use Rattle.block_pages.proofs.HalvingLemmas.{narrowed_up, narrowed_down, halved_more, halved_cost}
use Rattle.paged_blocks.proofs.entry_list.Entries.last_before.Goals as goal

pub loop-last-preserved-then-at : goal.loop-last-preserved-then-at
loop-last-preserved-then-at g c = record {
  narrowed = narrowed_up _ _ _ _ _ _ _ c.loop-last.invariant.narrowed (omega arith) (omega arith) (c.at.ensures c.at.result)
      (omega arith);
  halved = rw c.tick.ensures (halved_more _ _ _ _ _ (omega arith) (omega arith) c.loop-last.invariant.halved);
}

pub loop-last-preserved : goal.loop-last-preserved
loop-last-preserved g c = record {
  narrowed = narrowed_down _ _ _ _ _ _ _ c.loop-last.invariant.narrowed (omega arith) (omega arith) (c.at.ensures c.at.result)
      (omega arith);
  halved = rw c.tick.ensures (halved_more _ _ _ _ _ (omega arith) (omega arith) c.loop-last.invariant.halved);
}

pub returns-clause-few : goal.returns-clause-few
returns-clause-few g c =
    halved_cost _ _ _ _ 64 c.loop-last.invariant.halved (omega (arith, c.len-end.ensures, c.len-end.type_inv))
