use Rattle.option_words.proofs.OperandLemmas.{operands_words}
use Rattle.option_words.proofs.laws.operands_are_words.Goals as goal

pub returns : goal.returns
returns c = operands_words
