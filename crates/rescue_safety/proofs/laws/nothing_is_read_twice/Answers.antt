use Rattle.rescue_safety.proofs.AskedLemmas.{nothing_is_read_twice}
use Rattle.rescue_safety.proofs.laws.nothing_is_read_twice.Goals as goal

pub returns : goal.returns
returns c = nothing_is_read_twice
