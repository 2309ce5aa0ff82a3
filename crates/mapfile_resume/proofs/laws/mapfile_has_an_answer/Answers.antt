use Rattle.mapfile_resume.proofs.AnswerLemmas.{has_answer}
use Rattle.mapfile_resume.proofs.laws.mapfile_has_an_answer.Goals as goal

pub returns : goal.returns
returns c = has_answer
