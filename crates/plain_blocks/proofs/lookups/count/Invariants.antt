use Rattle.std.proofs.Common.{◌≡◌}
use Rattle.plain_blocks.proofs.LookupLemmas.{counted}
use Rattle.plain_blocks.proofs.lookups.count.Given as goal

abbrev pub invariant-loop-i : goal.invariant-loop-i
invariant-loop-i l = l.counted ≡ counted l.blocks.items l.status l.i
