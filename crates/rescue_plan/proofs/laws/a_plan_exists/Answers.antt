use Rattle.rescue_plan.proofs.ExistLemmas.{plan_exists}
use Rattle.rescue_plan.proofs.laws.a_plan_exists.Goals as goal

pub returns : goal.returns
returns c = plan_exists
