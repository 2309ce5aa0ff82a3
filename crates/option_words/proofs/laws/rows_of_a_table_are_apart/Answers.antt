use Rattle.option_words.proofs.TableLemmas.{rows_apart}
use Rattle.option_words.proofs.laws.rows_of_a_table_are_apart.Goals as goal

pub returns : goal.returns
returns c = rows_apart
