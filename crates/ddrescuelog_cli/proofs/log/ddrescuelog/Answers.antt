-- What was done, and then what is said.
use Rattle.ddrescuelog_cli.specs.Ddrescuelog.{log_program}
use Rattle.program_promise.proofs.PromiseLemmas.{said}
use Rattle.ddrescuelog_cli.proofs.log.ddrescuelog.Goals as goal

pub returns-clause-promise : goal.returns-clause-promise
returns-clause-promise g c =
    said log_program _ _ _ _ _ _ c.work-ending.ensures.done c.say_ending.ensures
