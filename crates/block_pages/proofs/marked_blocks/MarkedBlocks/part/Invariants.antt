use Rattle.std.proofs.Common.{◌≡◌, slice_range}
use Rattle.block_pages.proofs.marked_blocks.MarkedBlocks.part.Given as goal

abbrev pub invariant-loop-i : goal.invariant-loop-i
invariant-loop-i l = l.part ≡ slice_range l.self l.from l.i
