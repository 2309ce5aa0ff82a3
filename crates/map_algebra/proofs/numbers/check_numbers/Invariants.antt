-- The numbers of all lines are those that were counted and those of the lines that are left.
use Rattle.std.proofs.Common.{◌≡◌, ◌+◌, ◌≤◌, length}
use Rattle.map_algebra.specs.Numbers.{numbers_in, numbers_of, checked}
use Rattle.map_algebra.proofs.NumberLemmas.{counted}
use Rattle.map_algebra.proofs.numbers.check_numbers.Given as goal

abbrev pub invariant-loop-line : goal.invariant-loop-line
invariant-loop-line l = record {
  numbers : checked (numbers_in l.fn.shape l.fn.text) ≡ counted l.count (numbers_of l.fn.shape l.lines);
  few : l.count + length l.lines ≤ length l.fn.text + 1;
}

abbrev pub decreases-loop-line : goal.decreases-loop-line
decreases-loop-line l = length l.lines
