use Rattle.ddrescue_laws.proofs.SweepComplete.{fill_is_done_unless}
use Rattle.ddrescue_laws.proofs.laws.a_filling_is_done_unless.Goals as goal

pub returns : goal.returns
returns c = fill_is_done_unless
