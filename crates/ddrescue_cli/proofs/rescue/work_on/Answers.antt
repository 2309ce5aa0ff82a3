use Rattle.std.proofs.Common.{refl}
use Rattle.ddrescue_cli.proofs.TaskLemmas.{checked_does}
use Rattle.ddrescue_cli.proofs.rescue.work_on.Goals as goal

pub returns-in-Ok-clause-said : goal.returns-in-Ok-clause-said
returns-in-Ok-clause-said g c = λ words is.
    checked_does words c.args.aim c.args.checked _ _ _ _ is c.in-Ok.ensures.worked refl c.in-Ok.ensures.leaves

pub returns-in-Err-clause-said : goal.returns-in-Err-clause-said
returns-in-Err-clause-said g c = λ words is.
    checked_does words c.args.aim c.args.checked _ _ _ _ is c.in-Err.ensures.worked refl c.in-Err.ensures.leaves
