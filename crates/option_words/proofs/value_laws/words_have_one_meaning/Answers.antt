use Rattle.option_words.proofs.MeaningLemmas.{one_meaning}
use Rattle.option_words.proofs.value_laws.words_have_one_meaning.Goals as goal

pub returns : goal.returns
returns g c = one_meaning
