-- By what the read of the map answered.
use Rattle.ddrescuelog_cli.proofs.LoadLemmas.{named_ok, named_err}
use Rattle.ddrescuelog_cli.proofs.load.read_named.Goals as goal

pub returns-in-Ok-clause-read : goal.returns-in-Ok-clause-read
returns-in-Ok-clause-read g c =
    rw c.in-Some.is
    (named_ok c.args.which c.args.mode c.in-Some.name.now c.in-Ok.field-0 _ _ c.in-Ok.ensures.read)

pub returns-in-Err-clause-read : goal.returns-in-Err-clause-read
returns-in-Err-clause-read g c =
    rw c.in-Some.is
    (named_err c.args.which c.args.mode c.in-Some.name.now c.in-Err.refusal _ _ c.in-Err.ensures.read)
