use Rattle.std.proofs.Common.{◌+◌, ◌≤◌}
use Rattle.block_pages.specs.Search.{HasNoneOf}
use Rattle.block_pages.proofs.page.Page.last_below.Given as goal

abbrev pub invariant-loop-i : goal.invariant-loop-i
invariant-loop-i g l = record {
  none : HasNoneOf l.self l.status l.i l.below;
  cost : l.steps + l.i ≤ l.initial.steps + l.below;
}
