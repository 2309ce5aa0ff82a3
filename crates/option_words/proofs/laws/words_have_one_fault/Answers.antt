use Rattle.option_words.proofs.LawLemmas.{one_fault}
use Rattle.option_words.proofs.laws.words_have_one_fault.Goals as goal

pub returns : goal.returns
returns c = one_fault
