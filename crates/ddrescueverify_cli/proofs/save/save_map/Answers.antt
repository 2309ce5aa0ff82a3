-- What a save did.
use Rattle.ddrescueverify_cli.proofs.SaveLemmas.{broke_text, saved_text}
use Rattle.ddrescueverify_cli.proofs.save.save_map.Goals as goal

pub returns-in-Ok-clause-saves : goal.returns-in-Ok-clause-saves
returns-in-Ok-clause-saves g c = saved_text _ _ _ _ _ (rw c.state_after.ensures at c.in-Ok.ensures.call)

pub returns-in-Err-clause-saves : goal.returns-in-Err-clause-saves
returns-in-Err-clause-saves g c = broke_text _ _ _ _ _ (rw c.state_after.ensures at c.in-Err.ensures.call)
