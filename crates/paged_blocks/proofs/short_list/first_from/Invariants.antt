use Rattle.std.proofs.Common.{◌+◌, ◌≤◌}
use Rattle.block_list.specs.Stretches.{stretches}
use Rattle.block_list.specs.Edits.{start_of}
use Rattle.plain_blocks.proofs.LookupLemmas.{IsClear}
use Rattle.paged_blocks.proofs.short_list.first_from.Given as goal

abbrev pub invariant-loop-i : goal.invariant-loop-i
invariant-loop-i g l = record {
  clear : IsClear l.tiles.statuses l.status l.from (start_of (stretches l.tiles.statuses) l.i);
  cost : l.steps + l.begun ≤ l.initial.steps + l.i + 1;
}
