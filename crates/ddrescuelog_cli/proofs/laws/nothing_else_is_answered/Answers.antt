use Rattle.ddrescuelog_cli.proofs.CompleteLemmas.{is_found_unless}
use Rattle.ddrescuelog_cli.proofs.laws.nothing_else_is_answered.Goals as goal

pub returns : goal.returns
returns c = is_found_unless
