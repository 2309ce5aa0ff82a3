use Rattle.std.proofs.Common.{◌≡◌, ◌+◌, ◌-◌, ◌++◌, length, slice_range}
use Rattle.block_pages.proofs.moved_blocks.MovedBlocks.copy.Given as goal

abbrev pub invariant-loop-i : goal.invariant-loop-i
invariant-loop-i l = record {
  copied : l.self ≡ l.initial.self ++ slice_range l.page l.from l.i;
  len : length l.self ≡ length l.initial.self + (l.i - l.from);
}
