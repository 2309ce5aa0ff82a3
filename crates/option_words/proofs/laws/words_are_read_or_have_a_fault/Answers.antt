use Rattle.option_words.proofs.LawLemmas.{read_or_fault}
use Rattle.option_words.proofs.laws.words_are_read_or_have_a_fault.Goals as goal

pub returns : goal.returns
returns c = read_or_fault
