use Rattle.rescue_rules.proofs.StepLemmas.{move_steps}
use Rattle.rescue_rules.proofs.laws.a_move_steps.Goals as goal

pub returns : goal.returns
returns c = move_steps
