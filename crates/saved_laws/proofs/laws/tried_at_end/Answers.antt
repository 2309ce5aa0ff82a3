use Rattle.saved_laws.proofs.EndTried.{tried_at_end}
use Rattle.saved_laws.proofs.laws.tried_at_end.Goals as goal

pub returns : goal.returns
returns c = tried_at_end
