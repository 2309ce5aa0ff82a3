use Rattle.rescue_safety.proofs.ChainLemmas.{mixed_runs_hold_anywhere}
use Rattle.rescue_safety.proofs.laws.mixed_runs_hold_anywhere.Goals as goal

pub returns : goal.returns
returns c = mixed_runs_hold_anywhere
