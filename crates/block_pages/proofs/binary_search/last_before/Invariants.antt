use Rattle.std.proofs.Common.{◌-◌, length}
use Rattle.block_pages.proofs.HalvingLemmas.{IsNarrowed, IsHalved}
use Rattle.block_pages.proofs.binary_search.last_before.Given as goal

abbrev pub invariant-loop-last : goal.invariant-loop-last
invariant-loop-last g l = record {
  narrowed : IsNarrowed g.X.Positioned.begin l.xs l.at l.last l.end;
  halved : IsHalved (length l.xs) (l.end - l.last) l.initial.steps l.steps;
}

abbrev pub decreases-loop-last : goal.decreases-loop-last
decreases-loop-last g l = l.end - l.last
