use Rattle.saved_laws.proofs.ReadsWaited.{reads_wait}
use Rattle.saved_laws.proofs.laws.reads_wait.Goals as goal

pub returns : goal.returns
returns c = reads_wait
