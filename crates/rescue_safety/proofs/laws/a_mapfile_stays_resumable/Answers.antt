use Rattle.rescue_safety.proofs.SafeLemmas.{stays_resumable}
use Rattle.rescue_safety.proofs.laws.a_mapfile_stays_resumable.Goals as goal

pub returns : goal.returns
returns c = stays_resumable
