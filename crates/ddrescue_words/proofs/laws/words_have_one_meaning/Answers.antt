use Rattle.option_words.proofs.MeaningLemmas.{one_meaning}
use Rattle.ddrescue_words.specs.Asking.{rescue_grammar}
use Rattle.ddrescue_words.proofs.laws.words_have_one_meaning.Goals as goal

pub returns : goal.returns
returns c = one_meaning rescue_grammar
