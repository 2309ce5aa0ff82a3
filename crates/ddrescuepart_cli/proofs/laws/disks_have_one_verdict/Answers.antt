use Rattle.ddrescuepart_cli.proofs.CompleteLemmas.{has_one_verdict}
use Rattle.ddrescuepart_cli.proofs.laws.disks_have_one_verdict.Goals as goal

pub returns : goal.returns
returns c = has_one_verdict
