use Rattle.rescue_rules.proofs.RunDeedLemmas.{run_is_deeds}
use Rattle.rescue_rules.proofs.laws.a_run_is_deeds.Goals as goal

pub returns : goal.returns
returns c = run_is_deeds
