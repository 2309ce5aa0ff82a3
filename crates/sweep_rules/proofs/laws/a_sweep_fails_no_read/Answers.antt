use Rattle.sweep_rules.proofs.SweepLemmas.{sweep_fails_no_read}
use Rattle.sweep_rules.proofs.laws.a_sweep_fails_no_read.Goals as goal

pub returns : goal.returns
returns c = sweep_fails_no_read
