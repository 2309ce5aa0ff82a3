use Rattle.memory_site.proofs.OldestLemmas.{oldest_left}
use Rattle.memory_site.proofs.laws.oldest_is_durable.Goals as goal

pub returns : goal.returns
returns c = oldest_left
