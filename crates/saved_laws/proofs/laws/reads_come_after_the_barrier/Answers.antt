use Rattle.saved_laws.proofs.BarrierFirst.{reads_come_after_the_barrier}
use Rattle.saved_laws.proofs.laws.reads_come_after_the_barrier.Goals as goal

pub returns : goal.returns
returns c = reads_come_after_the_barrier
