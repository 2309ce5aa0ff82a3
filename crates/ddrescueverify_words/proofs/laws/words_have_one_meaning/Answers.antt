use Rattle.option_words.proofs.MeaningLemmas.{one_meaning}
use Rattle.ddrescueverify_words.specs.Command.{verify_grammar}
use Rattle.ddrescueverify_words.proofs.laws.words_have_one_meaning.Goals as goal

pub returns : goal.returns
returns c = one_meaning verify_grammar
