-- No operand so far is empty.
use Rattle.std.proofs.Common.{◌≡◌, drop}
use Rattle.option_words.specs.Values.{empty_operand}
use Rattle.option_words.proofs.operands.find_empty.Given as goal

abbrev pub invariant-loop-operand : goal.invariant-loop-operand
invariant-loop-operand l = empty_operand l.words l.operands ≡ empty_operand l.words (drop l.operand-index l.operands)
