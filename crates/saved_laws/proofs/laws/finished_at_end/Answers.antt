use Rattle.saved_laws.proofs.EndFinished.{finished_at_end}
use Rattle.saved_laws.proofs.laws.finished_at_end.Goals as goal

pub returns : goal.returns
returns c = finished_at_end
