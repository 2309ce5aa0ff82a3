use Rattle.rescue_rules.proofs.HoldLemmas.{run_holds}
use Rattle.rescue_rules.proofs.laws.a_run_holds.Goals as goal

pub returns : goal.returns
returns c = run_holds
