use Rattle.rescue_rules.proofs.NamelessLemmas.{runs_alike}
use Rattle.rescue_rules.proofs.laws.a_run_needs_no_names.Goals as goal

pub returns : goal.returns
returns c = runs_alike
