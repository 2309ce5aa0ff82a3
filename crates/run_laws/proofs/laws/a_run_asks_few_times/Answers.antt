use Rattle.run_laws.proofs.BoundLemmas.{run_asks_few}
use Rattle.run_laws.proofs.laws.a_run_asks_few_times.Goals as goal

pub returns : goal.returns
returns c = run_asks_few
