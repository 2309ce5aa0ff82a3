use Rattle.mapfile_resume.proofs.AnswerLemmas.{read_as_one}
use Rattle.mapfile_resume.proofs.laws.mapfile_is_read_as_one_map.Goals as goal

pub returns : goal.returns
returns c = read_as_one
