use Rattle.std.proofs.Common.{◌≡◌}
use Rattle.paged_blocks.specs.Paging.{before}
use Rattle.paged_blocks.proofs.counts.blocks.Given as goal

abbrev pub invariant-loop-k : goal.invariant-loop-k
invariant-loop-k l = l.blocks ≡ before l.pages l.entries.items l.k
