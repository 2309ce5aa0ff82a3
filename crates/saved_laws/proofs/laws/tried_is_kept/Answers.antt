use Rattle.saved_laws.proofs.StaysTried.{tried_is_kept}
use Rattle.saved_laws.proofs.laws.tried_is_kept.Goals as goal

pub returns : goal.returns
returns c = tried_is_kept
