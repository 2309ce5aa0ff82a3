use Rattle.ddrescuepart_cli.proofs.CompleteLemmas.{part_keeps_promises}
use Rattle.ddrescuepart_cli.proofs.laws.promises_are_kept.Goals as goal

pub returns : goal.returns
returns c = part_keeps_promises
