use Rattle.ddrescue_laws.proofs.SweepVerdict.{fill_has_one_verdict}
use Rattle.ddrescue_laws.proofs.laws.a_filling_has_one_verdict.Goals as goal

pub returns : goal.returns
returns c = fill_has_one_verdict
