use Rattle.saved_laws.proofs.FailedLemmas.{failed_was_asked}
use Rattle.saved_laws.proofs.laws.failed_was_asked.Goals as goal

pub returns : goal.returns
returns c = failed_was_asked
