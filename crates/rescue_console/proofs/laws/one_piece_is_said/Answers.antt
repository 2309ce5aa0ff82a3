use Rattle.rescue_console.proofs.SpeakingLemmas.{one_piece_is_said}
use Rattle.rescue_console.proofs.laws.one_piece_is_said.Goals as goal

pub returns : goal.returns
returns c = one_piece_is_said
