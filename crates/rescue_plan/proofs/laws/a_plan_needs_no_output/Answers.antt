use Rattle.rescue_plan.proofs.NeedLemmas.{plan_needs_no_output}
use Rattle.rescue_plan.proofs.laws.a_plan_needs_no_output.Goals as goal

pub returns : goal.returns
returns c = plan_needs_no_output
