use Rattle.rescue_phases.proofs.StartLemmas.{shown_may_copy}
use Rattle.rescue_phases.proofs.laws.a_shown_state_may_copy.Goals as goal

pub returns : goal.returns
returns c = shown_may_copy
