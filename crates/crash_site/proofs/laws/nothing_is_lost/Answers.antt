use Rattle.crash_site.proofs.NoneLemmas.{nothing_lost}
use Rattle.crash_site.proofs.laws.nothing_is_lost.Goals as goal

pub returns : goal.returns
returns c = nothing_lost
