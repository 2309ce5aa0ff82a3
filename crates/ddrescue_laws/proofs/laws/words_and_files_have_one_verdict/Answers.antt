use Rattle.ddrescue_laws.proofs.VerdictLemmas.{has_one_verdict}
use Rattle.ddrescue_laws.proofs.laws.words_and_files_have_one_verdict.Goals as goal

pub returns : goal.returns
returns c = has_one_verdict
