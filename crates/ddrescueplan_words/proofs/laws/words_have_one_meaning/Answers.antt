use Rattle.option_words.proofs.MeaningLemmas.{one_meaning}
use Rattle.ddrescueplan_words.specs.Command.{plan_grammar}
use Rattle.ddrescueplan_words.proofs.laws.words_have_one_meaning.Goals as goal

pub returns : goal.returns
returns c = one_meaning plan_grammar
