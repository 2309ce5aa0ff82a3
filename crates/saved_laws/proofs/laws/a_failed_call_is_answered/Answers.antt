use Rattle.saved_laws.proofs.AnsweredLemmas.{failed_call_is_answered}
use Rattle.saved_laws.proofs.laws.a_failed_call_is_answered.Goals as goal

pub returns : goal.returns
returns c = failed_call_is_answered
