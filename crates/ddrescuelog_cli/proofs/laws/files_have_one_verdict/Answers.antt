use Rattle.ddrescuelog_cli.proofs.SameLemmas.{files_have_one_verdict}
use Rattle.ddrescuelog_cli.proofs.laws.files_have_one_verdict.Goals as goal

pub returns : goal.returns
returns c = files_have_one_verdict
