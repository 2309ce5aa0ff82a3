use Rattle.sweep_rules.proofs.SweepLemmas.{piece_is_one}
use Rattle.sweep_rules.proofs.laws.a_state_has_one_piece.Goals as goal

pub returns : goal.returns
returns c = piece_is_one
