use Rattle.ddrescue_laws.proofs.DoneLemmas.{done_is_saved}
use Rattle.ddrescue_laws.proofs.laws.done_is_saved.Goals as goal

pub returns : goal.returns
returns c = done_is_saved
