use Rattle.mapfile_resume.proofs.AnswerLemmas.{refused_for_one}
use Rattle.mapfile_resume.proofs.laws.mapfile_is_refused_for_one_error.Goals as goal

pub returns : goal.returns
returns c = refused_for_one
