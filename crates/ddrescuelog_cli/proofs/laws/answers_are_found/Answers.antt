use Rattle.ddrescuelog_cli.proofs.FoundLemmas.{answers_are_found}
use Rattle.ddrescuelog_cli.proofs.laws.answers_are_found.Goals as goal

pub returns : goal.returns
returns c = answers_are_found
