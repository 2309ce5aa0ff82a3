use Rattle.ddrescue_laws.proofs.SweepVerdict.{generate_has_one_verdict}
use Rattle.ddrescue_laws.proofs.laws.a_generating_has_one_verdict.Goals as goal

pub returns : goal.returns
returns c = generate_has_one_verdict
