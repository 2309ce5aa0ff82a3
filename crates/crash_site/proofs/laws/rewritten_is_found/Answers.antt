use Rattle.crash_site.proofs.LostLemmas.{rewritten}
use Rattle.crash_site.proofs.laws.rewritten_is_found.Goals as goal

pub returns : goal.returns
returns c = rewritten
