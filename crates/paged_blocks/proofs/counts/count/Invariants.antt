use Rattle.std.proofs.Common.{◌≡◌}
use Rattle.paged_blocks.proofs.CountLemmas.{paged}
use Rattle.paged_blocks.proofs.counts.count.Given as goal

abbrev pub invariant-loop-k : goal.invariant-loop-k
invariant-loop-k l = l.counted ≡ paged l.pages l.entries.items l.status l.k
