use Rattle.crash_site.proofs.RunLemmas.{resolved_after}
use Rattle.crash_site.proofs.laws.lost_is_resolved_after.Goals as goal

pub returns : goal.returns
returns c = resolved_after
