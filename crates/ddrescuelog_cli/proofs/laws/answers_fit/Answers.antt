use Rattle.ddrescuelog_cli.proofs.FitLemmas.{answers_fit}
use Rattle.ddrescuelog_cli.proofs.laws.answers_fit.Goals as goal

pub returns : goal.returns
returns c = answers_fit
