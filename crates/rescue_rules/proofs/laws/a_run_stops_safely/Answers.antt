use Rattle.rescue_rules.proofs.RunStopLemmas.{run_stops_safely}
use Rattle.rescue_rules.proofs.laws.a_run_stops_safely.Goals as goal

pub returns : goal.returns
returns c = run_stops_safely
