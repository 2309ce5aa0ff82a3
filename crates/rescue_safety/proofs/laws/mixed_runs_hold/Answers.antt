use Rattle.rescue_safety.proofs.ChainLemmas.{mixed_runs_hold}
use Rattle.rescue_safety.proofs.laws.mixed_runs_hold.Goals as goal

pub returns : goal.returns
returns c = mixed_runs_hold
