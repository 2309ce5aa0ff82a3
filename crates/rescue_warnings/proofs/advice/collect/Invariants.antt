use Rattle.std.proofs.Common.{◌≡◌, ◌≤◌, ◌++◌, drop, length}
use Rattle.rescue_warnings.specs.Due.{somes}
use Rattle.rescue_warnings.proofs.advice.collect.Given as goal

-- what was added is what is due so far
abbrev pub invariant-loop-due : goal.invariant-loop-due
invariant-loop-due l = record {
  rest : l.list.items ++ somes (drop l.due-index l.kinds) ≡ somes l.kinds;
  few : length l.list.items ≤ l.due-index;
}
