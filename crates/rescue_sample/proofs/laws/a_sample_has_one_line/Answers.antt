use Rattle.rescue_sample.proofs.RunLemmas.{one_line}
use Rattle.rescue_sample.proofs.laws.a_sample_has_one_line.Goals as goal

pub returns : goal.returns
returns c = one_line
