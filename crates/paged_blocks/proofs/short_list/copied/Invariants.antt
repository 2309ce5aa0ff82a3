use Rattle.std.proofs.Common.{◌≡◌, take}
use Rattle.std.specs.List.{flat_map}
use Rattle.block_list.specs.Stretches.{covered, stretches}
use Rattle.paged_blocks.proofs.short_list.copied.Given as goal

abbrev pub invariant-loop-i : goal.invariant-loop-i
invariant-loop-i l = l.copy.statuses ≡ flat_map covered (take l.i (stretches l.tiles.statuses))
