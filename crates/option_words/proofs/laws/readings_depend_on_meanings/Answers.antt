use Rattle.option_words.proofs.MeantLemmas.{same_reading}
use Rattle.option_words.proofs.laws.readings_depend_on_meanings.Goals as goal

pub returns : goal.returns
returns c = same_reading
