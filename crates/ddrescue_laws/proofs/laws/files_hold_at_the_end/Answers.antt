use Rattle.ddrescue_laws.proofs.DoneLemmas.{holds_at_end}
use Rattle.ddrescue_laws.proofs.laws.files_hold_at_the_end.Goals as goal

pub returns : goal.returns
returns c = holds_at_end
