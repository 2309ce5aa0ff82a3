-- The numbers of all lines are those that were read and those of the lines that are left.
use Rattle.std.proofs.Common.{◌≡◌, All, length}
use Rattle.map_algebra.specs.Numbers.{IsInRange, numbers_in, numbers_of}
use Rattle.map_algebra.proofs.NumberLemmas.{after}
use Rattle.map_algebra.proofs.numbers.read_numbers.Given as goal

abbrev pub invariant-loop-line : goal.invariant-loop-line
invariant-loop-line l = record {
  numbers : numbers_in l.fn.shape l.fn.text ≡ after l.numbers.items (numbers_of l.fn.shape l.lines);
  limits : All (IsInRange l.fn.shape) l.numbers.items;
}

abbrev pub decreases-loop-line : goal.decreases-loop-line
decreases-loop-line l = length l.lines
