use Rattle.option_words.proofs.MeaningLemmas.{one_meaning}
use Rattle.ddrescueshow_words.specs.Command.{show_grammar}
use Rattle.ddrescueshow_words.proofs.laws.words_have_one_meaning.Goals as goal

pub returns : goal.returns
returns c = one_meaning show_grammar
