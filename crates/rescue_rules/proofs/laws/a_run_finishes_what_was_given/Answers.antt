use Rattle.rescue_rules.proofs.FinishLemmas.{run_finishes_given}
use Rattle.rescue_rules.proofs.laws.a_run_finishes_what_was_given.Goals as goal

pub returns : goal.returns
returns c = run_finishes_given
