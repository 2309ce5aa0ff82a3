use Rattle.std.proofs.Common.{◌≡◌, take}
use Rattle.block_list.specs.declared.status.Status.{Status}
use Rattle.block_pages.specs.Tally.{tallied}
use Rattle.block_pages.proofs.CountLemmas.{count_in}
use Rattle.block_pages.proofs.marked_blocks.MarkedBlocks.tally.Given as goal

abbrev pub invariant-loop-i : goal.invariant-loop-i
invariant-loop-i l = (s : Status) → tallied l.tally s ≡ count_in s (take l.i l.self)
