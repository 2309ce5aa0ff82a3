use Rattle.rescue_rules.proofs.laws.promise_of_nothing.Goals as goal
use Rattle.rescue_rules.proofs.PromiseLemmas.{promise_of_nothing}

pub returns : goal.returns
returns c = promise_of_nothing
