use Rattle.turn_laws.proofs.CloseLemmas.{close_is_held}
use Rattle.turn_laws.proofs.laws.a_close_is_held.Goals as goal

pub returns : goal.returns
returns c = close_is_held
