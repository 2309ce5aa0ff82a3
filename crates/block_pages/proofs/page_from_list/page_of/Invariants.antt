use Rattle.std.proofs.Common.{◌≡◌, slice_range}
use Rattle.block_list.specs.Stretches.{stretches}
use Rattle.block_pages.proofs.page_from_list.page_of.Given as goal

abbrev pub invariant-loop-i : goal.invariant-loop-i
invariant-loop-i l = l.page ≡ slice_range (stretches l.tiles.statuses) l.from l.i
