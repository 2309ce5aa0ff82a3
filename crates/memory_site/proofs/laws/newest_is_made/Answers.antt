use Rattle.memory_site.proofs.NewestLemmas.{newest_left}
use Rattle.memory_site.proofs.laws.newest_is_made.Goals as goal

pub returns : goal.returns
returns c = newest_left
