use Rattle.ddrescueverify_cli.proofs.CompleteLemmas.{has_one_verdict}
use Rattle.ddrescueverify_cli.proofs.laws.comparisons_have_one_verdict.Goals as goal

pub returns : goal.returns
returns c = has_one_verdict
