use Rattle.option_words.proofs.TableLemmas.{rows_fit}
use Rattle.option_words.proofs.laws.rows_of_a_table_fit.Goals as goal

pub returns : goal.returns
returns c = rows_fit
