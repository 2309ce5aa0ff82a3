use Rattle.memory_site.proofs.GarbageLemmas.{garbage_left}
use Rattle.memory_site.proofs.laws.garbage_is_unsynced.Goals as goal

pub returns : goal.returns
returns c = garbage_left
