-- What the open of the output did, by what it found.
use Rattle.std.proofs.Common.{rules}
use Rattle.ddrescueverify_cli.proofs.OutputLemmas.{output_failed, output_missing, output_opened}
use Rattle.ddrescueverify_cli.proofs.open.open_output.Goals as goal

pub returns-in-Ok-Absent-clause-opens : goal.returns-in-Ok-Absent-clause-opens
returns-in-Ok-Absent-clause-opens g c =
    output_missing _ _ _ (rw c.in-Ok-Absent.field-0-is at c.in-Ok-Absent.ensures.kind) c.in-Ok-Absent.ensures.call.done

pub returns-in-Ok-clause-opens : goal.returns-in-Ok-clause-opens
returns-in-Ok-clause-opens g c =
    output_opened _ c.in-Ok.field-0 _ _ (λ absent. search rules) c.in-Ok.ensures.kind c.in-Ok.ensures.call.done

pub returns-in-Err-clause-opens : goal.returns-in-Err-clause-opens
returns-in-Err-clause-opens g c = output_failed _ _ _ c.in-Err.ensures.call.lost
