use Rattle.ddrescuelog_cli.proofs.PromiseLemmas.{log_keeps_promises}
use Rattle.ddrescuelog_cli.proofs.laws.promises_are_kept.Goals as goal

pub returns : goal.returns
returns c = log_keeps_promises
