use Rattle.rescue_safety.proofs.SafeLemmas.{writes_are_of_reads}
use Rattle.rescue_safety.proofs.laws.writes_are_of_reads.Goals as goal

pub returns : goal.returns
returns c = writes_are_of_reads
