use Rattle.option_words.proofs.LastLemmas.{none_counts}
use Rattle.option_words.proofs.value_laws.none_counts_where_none_is_given.Goals as goal

pub returns : goal.returns
returns c = none_counts
