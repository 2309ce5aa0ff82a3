use Rattle.sweep_rules.proofs.FillLemmas.{fills_safely}
use Rattle.sweep_rules.proofs.laws.a_filling_stops_safely.Goals as goal

pub returns : goal.returns
returns c = fills_safely
