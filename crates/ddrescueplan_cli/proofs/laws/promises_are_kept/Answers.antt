use Rattle.ddrescueplan_cli.proofs.PromiseLemmas.{plan_keeps_promises}
use Rattle.ddrescueplan_cli.proofs.laws.promises_are_kept.Goals as goal

pub returns : goal.returns
returns c = plan_keeps_promises
