use Rattle.std.proofs.Common.{◌-◌, length}
use Rattle.block_list.specs.Stretches.{stretches}
use Rattle.block_pages.proofs.SearchLemmas.{block_begins}
use Rattle.block_pages.proofs.HalvingLemmas.{IsNarrowed, IsHalved}
use Rattle.paged_blocks.proofs.short_list.begun_in_front.Given as goal

abbrev pub invariant-loop-last : goal.invariant-loop-last
invariant-loop-last g l = record {
  narrowed : IsNarrowed block_begins (stretches l.tiles.statuses) l.at l.last l.end;
  halved : IsHalved (length (stretches l.tiles.statuses) - 1) (l.end - l.last) l.initial.steps l.steps;
}

abbrev pub decreases-loop-last : goal.decreases-loop-last
decreases-loop-last g l = l.end - l.last
