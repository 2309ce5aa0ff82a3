use Rattle.option_words.proofs.LawLemmas.{one_reading}
use Rattle.option_words.proofs.laws.words_have_one_reading.Goals as goal

pub returns : goal.returns
returns c = one_reading
