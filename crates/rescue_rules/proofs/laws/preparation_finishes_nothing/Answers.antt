use Rattle.rescue_rules.proofs.PreparationLemmas.{prepares_no_finished}
use Rattle.rescue_rules.proofs.laws.preparation_finishes_nothing.Goals as goal

pub returns : goal.returns
returns c = prepares_no_finished
