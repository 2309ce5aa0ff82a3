use Rattle.ddrescueverify_cli.proofs.SavedLemmas.{saved_is}
use Rattle.ddrescueverify_cli.proofs.laws.saved_is_verified.Goals as goal

pub returns : goal.returns
returns c = saved_is
