use Rattle.option_words.proofs.MeantLemmas.{same_fault}
use Rattle.option_words.proofs.laws.faults_depend_on_meanings.Goals as goal

pub returns : goal.returns
returns c = same_fault
