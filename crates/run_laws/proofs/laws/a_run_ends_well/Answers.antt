use Rattle.run_laws.proofs.EndingLemmas.{run_ends_well}
use Rattle.run_laws.proofs.laws.a_run_ends_well.Goals as goal

pub returns : goal.returns
returns c = run_ends_well
