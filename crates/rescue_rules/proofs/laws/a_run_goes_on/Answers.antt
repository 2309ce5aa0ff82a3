use Rattle.rescue_rules.proofs.MoveLemmas.{goes_on}
use Rattle.rescue_rules.proofs.laws.a_run_goes_on.Goals as goal

pub returns : goal.returns
returns c = goes_on
