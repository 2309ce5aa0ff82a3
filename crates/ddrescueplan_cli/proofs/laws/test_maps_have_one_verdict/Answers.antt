use Rattle.ddrescueplan_cli.proofs.PromiseLemmas.{has_one_verdict}
use Rattle.ddrescueplan_cli.proofs.laws.test_maps_have_one_verdict.Goals as goal

pub returns : goal.returns
returns c = has_one_verdict
