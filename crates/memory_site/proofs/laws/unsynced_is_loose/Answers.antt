use Rattle.memory_site.proofs.LooseLemmas.{unsynced_left}
use Rattle.memory_site.proofs.laws.unsynced_is_loose.Goals as goal

pub returns : goal.returns
returns c = unsynced_left
