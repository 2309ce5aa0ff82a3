use Rattle.saved_laws.proofs.DuesReturned.{due_saves_return}
use Rattle.saved_laws.proofs.laws.due_saves_return.Goals as goal

pub returns : goal.returns
returns c = due_saves_return
