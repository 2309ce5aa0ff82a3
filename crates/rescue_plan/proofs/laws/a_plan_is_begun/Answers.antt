use Rattle.rescue_plan.proofs.BegunLemmas.{plan_is_begun}
use Rattle.rescue_plan.proofs.laws.a_plan_is_begun.Goals as goal

pub returns : goal.returns
returns c = plan_is_begun
