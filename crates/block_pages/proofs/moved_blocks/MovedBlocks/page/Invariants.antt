use Rattle.std.proofs.Common.{◌≡◌, slice_range}
use Rattle.block_pages.proofs.moved_blocks.MovedBlocks.page.Given as goal

abbrev pub invariant-loop-i : goal.invariant-loop-i
invariant-loop-i l = l.page ≡ slice_range l.self l.from l.i
