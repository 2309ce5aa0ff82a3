use Rattle.std.specs.List.{flat_map}
use Rattle.block_list.specs.Stretches.{covered}
use Rattle.block_list.specs.Edits.{start_of}
use Rattle.plain_blocks.proofs.LookupLemmas.{IsClear}
use Rattle.plain_blocks.proofs.lookups.first_with.Given as goal

abbrev pub invariant-loop-i : goal.invariant-loop-i
invariant-loop-i l =
    IsClear (flat_map covered l.blocks.items) l.status l.from (start_of l.blocks.items l.i)
