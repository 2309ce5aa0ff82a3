-- What was done, and then what is said.
use Rattle.ddrescuepart_cli.specs.Ddrescuepart.{part_program}
use Rattle.program_promise.proofs.PromiseLemmas.{said}
use Rattle.ddrescuepart_cli.proofs.part.ddrescuepart.Goals as goal

pub returns-clause-promise : goal.returns-clause-promise
returns-clause-promise g c =
    said part_program _ _ _ _ _ _ c.work-ending.ensures.done c.say_ending.ensures
