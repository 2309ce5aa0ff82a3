use Rattle.mapfile_resume.proofs.AnswerLemmas.{pending_nothing_is_found}
use Rattle.mapfile_resume.proofs.laws.nothing_pending_is_found.Goals as goal

pub returns : goal.returns
returns c = pending_nothing_is_found
