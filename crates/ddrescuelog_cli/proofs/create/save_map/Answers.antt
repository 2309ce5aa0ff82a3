-- A save that failed.
use Rattle.ddrescuelog_cli.proofs.CreateLemmas.{broke_text}
use Rattle.ddrescuelog_cli.proofs.create.save_map.Goals as goal

pub returns-in-Err-clause-saves : goal.returns-in-Err-clause-saves
returns-in-Err-clause-saves g c = broke_text c.args.names.now _ c.in-Err.field-0 _ _ c.in-Err.ensures.call
