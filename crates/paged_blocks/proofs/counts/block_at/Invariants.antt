use Rattle.std.proofs.Common.{◌≡◌, ◌+◌, ◌-◌, ◌<◌, length}
use Rattle.paged_blocks.specs.Paging.{before}
use Rattle.paged_blocks.proofs.counts.block_at.Given as goal

abbrev pub invariant-loop-left : goal.invariant-loop-left
invariant-loop-left l = record {
  index : l.k < length l.entries.items;
  place : before l.pages l.entries.items l.k + l.left ≡ l.i;
}

abbrev pub decreases-loop-left : goal.decreases-loop-left
decreases-loop-left l = length l.entries.items - l.k
