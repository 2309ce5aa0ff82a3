use Rattle.ddrescueverify_cli.proofs.JudgeLemmas.{judged_is}
use Rattle.ddrescueverify_cli.proofs.laws.judged_is_by_position.Goals as goal

pub returns : goal.returns
returns c = judged_is
