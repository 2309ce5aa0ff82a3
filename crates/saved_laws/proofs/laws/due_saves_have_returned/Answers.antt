use Rattle.saved_laws.proofs.LossBounded.{due_saves_have_returned}
use Rattle.saved_laws.proofs.laws.due_saves_have_returned.Goals as goal

pub returns : goal.returns
returns c = due_saves_have_returned
