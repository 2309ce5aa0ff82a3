use Rattle.memory_site.proofs.LeftLemmas.{kind_stands}
use Rattle.memory_site.proofs.laws.kinds_may_be_left.Goals as goal

pub returns : goal.returns
returns c = kind_stands
