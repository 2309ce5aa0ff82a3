use Rattle.ddrescueshow_cli.proofs.PromiseLemmas.{has_one_verdict}
use Rattle.ddrescueshow_cli.proofs.laws.maps_have_one_verdict.Goals as goal

pub returns : goal.returns
returns c = has_one_verdict
