use Rattle.rescue_safety.proofs.FinishedLemmas.{finishes_alike}
use Rattle.rescue_safety.proofs.laws.a_mapfile_finishes_alike.Goals as goal

pub returns : goal.returns
returns c = finishes_alike
