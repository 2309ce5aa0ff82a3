use Rattle.std.proofs.Common.{◌≤◌, ◌-◌, length}
use Rattle.rescue_sample.proofs.SampleLemmas.{AreDrawn}
use Rattle.rescue_sample.proofs.draw.draw_sectors.Given as goal

-- the sectors that were drawn, and the last value
abbrev pub invariant-loop-value : goal.invariant-loop-value
invariant-loop-value l = record {
  few : length l.sectors.items ≤ l.count;
  all : AreDrawn l.kib l.value l.sectors.items;
}

abbrev pub decreases-loop-value : goal.decreases-loop-value
decreases-loop-value l = l.count - length l.sectors.items
