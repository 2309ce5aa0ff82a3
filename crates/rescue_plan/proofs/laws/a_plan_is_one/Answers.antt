use Rattle.rescue_plan.proofs.PlanLemmas.{plan_is_one}
use Rattle.rescue_plan.proofs.laws.a_plan_is_one.Goals as goal

pub returns : goal.returns
returns c = plan_is_one
