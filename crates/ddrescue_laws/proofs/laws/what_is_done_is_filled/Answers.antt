use Rattle.ddrescue_laws.proofs.SweepDoneLemmas.{done_is_filled}
use Rattle.ddrescue_laws.proofs.laws.what_is_done_is_filled.Goals as goal

pub returns : goal.returns
returns c = done_is_filled
