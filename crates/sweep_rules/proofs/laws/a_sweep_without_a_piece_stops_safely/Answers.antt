use Rattle.sweep_rules.proofs.EarlyLemmas.{ends_early_safely}
use Rattle.sweep_rules.proofs.laws.a_sweep_without_a_piece_stops_safely.Goals as goal

pub returns : goal.returns
returns c = ends_early_safely
