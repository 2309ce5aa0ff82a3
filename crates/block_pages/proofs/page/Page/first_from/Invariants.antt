use Rattle.std.proofs.Common.{◌+◌, ◌≤◌}
use Rattle.block_pages.specs.Search.{HasNoneOf}
use Rattle.block_pages.proofs.page.Page.first_from.Given as goal

abbrev pub invariant-loop-i : goal.invariant-loop-i
invariant-loop-i g l = record {
  none : HasNoneOf l.self l.status l.from l.i;
  cost : l.steps + l.from ≤ l.initial.steps + l.i;
}
