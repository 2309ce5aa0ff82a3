use Rattle.rescue_plan.proofs.PlanLemmas.{rescues_are_planned}
use Rattle.rescue_plan.proofs.laws.a_rescue_is_planned.Goals as goal

pub returns : goal.returns
returns c = rescues_are_planned
