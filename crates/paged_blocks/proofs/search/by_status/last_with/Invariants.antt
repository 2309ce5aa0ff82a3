use Rattle.std.proofs.Common.{◌+◌, ◌≤◌}
use Rattle.std.specs.List.{flat_map}
use Rattle.block_list.specs.Stretches.{covered}
use Rattle.block_list.specs.Edits.{start_of}
use Rattle.paged_blocks.specs.Walks.{IsBare}
use Rattle.paged_blocks.specs.Paging.{flat, before}
use Rattle.paged_blocks.proofs.search.by_status.last_with.Given as goal

abbrev pub invariant-loop-k : goal.invariant-loop-k
invariant-loop-k g l = record {
  bare : IsBare (flat_map covered (flat l.pages l.entries.items)) l.status
      (start_of (flat l.pages l.entries.items) (before l.pages l.entries.items l.k)) l.to;
  cost : l.steps + l.k ≤ l.initial.steps + l.held;
}
