use Rattle.rescue_verify.proofs.PieceLemmas.{none_is_read_twice}
use Rattle.rescue_verify.proofs.laws.none_is_read_twice.Goals as goal

pub returns : goal.returns
returns c = none_is_read_twice
