use Rattle.ddrescueshow_cli.proofs.PromiseLemmas.{show_keeps_promises}
use Rattle.ddrescueshow_cli.proofs.laws.promises_are_kept.Goals as goal

pub returns : goal.returns
returns c = show_keeps_promises
