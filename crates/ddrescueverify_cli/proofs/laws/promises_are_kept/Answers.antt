use Rattle.ddrescueverify_cli.proofs.CompleteLemmas.{verify_keeps_promises}
use Rattle.ddrescueverify_cli.proofs.laws.promises_are_kept.Goals as goal

pub returns : goal.returns
returns c = verify_keeps_promises
