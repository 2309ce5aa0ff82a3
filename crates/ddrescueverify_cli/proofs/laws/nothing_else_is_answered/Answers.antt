use Rattle.ddrescueverify_cli.proofs.CompleteLemmas.{compared_unless}
use Rattle.ddrescueverify_cli.proofs.laws.nothing_else_is_answered.Goals as goal

pub returns : goal.returns
returns c = compared_unless
