use Rattle.sweep_rules.proofs.GenerateLemmas.{generates_safely}
use Rattle.sweep_rules.proofs.laws.a_generating_stops_safely.Goals as goal

pub returns : goal.returns
returns c = generates_safely
