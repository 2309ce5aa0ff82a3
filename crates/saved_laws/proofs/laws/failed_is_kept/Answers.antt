use Rattle.saved_laws.proofs.TriedKept.{failed_is_kept}
use Rattle.saved_laws.proofs.laws.failed_is_kept.Goals as goal

pub returns : goal.returns
returns c = failed_is_kept
