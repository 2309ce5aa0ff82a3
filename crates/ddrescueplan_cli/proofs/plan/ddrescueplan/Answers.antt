-- What was done, and then what is said.
use Rattle.program_promise.proofs.PromiseLemmas.{said}
use Rattle.ddrescueplan_cli.specs.Ddrescueplan.{plan_program}
use Rattle.ddrescueplan_cli.proofs.plan.ddrescueplan.Goals as goal

pub returns-clause-promise : goal.returns-clause-promise
returns-clause-promise g c =
    said plan_program _ _ _ _ _ _ c.work-ending.ensures.done c.say_ending.ensures
