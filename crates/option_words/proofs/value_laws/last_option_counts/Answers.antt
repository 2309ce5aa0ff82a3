use Rattle.option_words.proofs.LastLemmas.{last_counts}
use Rattle.option_words.proofs.value_laws.last_option_counts.Goals as goal

pub returns : goal.returns
returns c = last_counts
