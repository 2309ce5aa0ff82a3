use Rattle.crash_site.proofs.LostLemmas.{lost_stays}
use Rattle.crash_site.proofs.laws.lost_stays.Goals as goal

pub returns : goal.returns
returns c = lost_stays
