use Rattle.ddrescueverify_cli.proofs.JudgeLemmas.{nothing_finished}
use Rattle.ddrescueverify_cli.proofs.laws.nothing_becomes_finished.Goals as goal

pub returns : goal.returns
returns c = nothing_finished
