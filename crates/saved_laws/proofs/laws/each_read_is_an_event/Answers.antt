use Rattle.saved_laws.proofs.AnsweredLemmas.{each_read_is_an_event}
use Rattle.saved_laws.proofs.laws.each_read_is_an_event.Goals as goal

pub returns : goal.returns
returns c = each_read_is_an_event
