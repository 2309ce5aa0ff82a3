use Rattle.saved_laws.proofs.FailedLemmas.{bad_was_asked}
use Rattle.saved_laws.proofs.laws.bad_was_asked.Goals as goal

pub returns : goal.returns
returns c = bad_was_asked
