use Rattle.ddrescueplan_cli.proofs.PromiseLemmas.{plan_is_put}
use Rattle.ddrescueplan_cli.proofs.laws.a_plan_is_put.Goals as goal

pub returns : goal.returns
returns c = plan_is_put
