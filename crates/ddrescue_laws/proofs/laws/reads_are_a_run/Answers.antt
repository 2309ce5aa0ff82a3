use Rattle.ddrescue_laws.proofs.InputReadLemmas.{reads_are_a_run}
use Rattle.ddrescue_laws.proofs.laws.reads_are_a_run.Goals as goal

pub returns : goal.returns
returns c = reads_are_a_run
