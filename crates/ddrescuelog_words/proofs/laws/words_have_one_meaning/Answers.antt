use Rattle.option_words.proofs.MeaningLemmas.{one_meaning}
use Rattle.ddrescuelog_words.specs.Command.{log_grammar}
use Rattle.ddrescuelog_words.proofs.laws.words_have_one_meaning.Goals as goal

pub returns : goal.returns
returns c = one_meaning log_grammar
