use Rattle.turn_laws.proofs.SafeLemmas.{safe_is_held}
use Rattle.turn_laws.proofs.laws.what_is_safe_is_held.Goals as goal

pub returns : goal.returns
returns c = safe_is_held
