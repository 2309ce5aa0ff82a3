use Rattle.ddrescue_laws.proofs.SweepComplete.{generate_is_done_unless}
use Rattle.ddrescue_laws.proofs.laws.a_generating_is_done_unless.Goals as goal

pub returns : goal.returns
returns c = generate_is_done_unless
