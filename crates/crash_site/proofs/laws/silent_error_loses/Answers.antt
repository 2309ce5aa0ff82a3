use Rattle.crash_site.proofs.RetryLemmas.{silent_loses}
use Rattle.crash_site.proofs.laws.silent_error_loses.Goals as goal

pub returns : goal.returns
returns c = silent_loses
