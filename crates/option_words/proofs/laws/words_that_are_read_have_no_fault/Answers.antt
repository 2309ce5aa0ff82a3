use Rattle.option_words.proofs.LawLemmas.{no_fault}
use Rattle.option_words.proofs.laws.words_that_are_read_have_no_fault.Goals as goal

pub returns : goal.returns
returns c = no_fault
