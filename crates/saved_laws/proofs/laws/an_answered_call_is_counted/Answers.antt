use Rattle.saved_laws.proofs.AnsweredLemmas.{answered_call_is_counted}
use Rattle.saved_laws.proofs.laws.an_answered_call_is_counted.Goals as goal

pub returns : goal.returns
returns c = answered_call_is_counted
