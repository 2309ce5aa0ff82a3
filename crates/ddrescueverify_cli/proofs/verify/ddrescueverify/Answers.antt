-- What was done, and then what is said.
use Rattle.program_promise.proofs.PromiseLemmas.{said}
use Rattle.ddrescueverify_cli.specs.Ddrescueverify.{verify_program}
use Rattle.ddrescueverify_cli.proofs.verify.ddrescueverify.Goals as goal

pub returns-clause-promise : goal.returns-clause-promise
returns-clause-promise g c =
    said verify_program _ _ _ _ _ _ (c.work-came.ensures.done _ _ _ c.answer-ending.ensures) c.say_ending.ensures
