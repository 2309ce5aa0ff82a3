use Rattle.std.proofs.Common.{◌-◌, length}
use Rattle.paged_blocks.proofs.PagingLemmas.{entry_begins}
use Rattle.block_pages.proofs.HalvingLemmas.{IsNarrowed, IsHalved}
use Rattle.paged_blocks.proofs.entry_list.Entries.last_before.Given as goal

abbrev pub invariant-loop-last : goal.invariant-loop-last
invariant-loop-last g l = record {
  narrowed : IsNarrowed entry_begins l.self.items l.at l.last l.end;
  halved : IsHalved (length l.self.items) (l.end - l.last) l.initial.steps l.steps;
}

abbrev pub decreases-loop-last : goal.decreases-loop-last
decreases-loop-last g l = l.end - l.last
