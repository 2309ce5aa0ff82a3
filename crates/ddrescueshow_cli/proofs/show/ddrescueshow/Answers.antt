-- What was done, and then what is said.
use Rattle.program_promise.proofs.PromiseLemmas.{said}
use Rattle.ddrescueshow_cli.specs.Ddrescueshow.{show_program}
use Rattle.ddrescueshow_cli.proofs.show.ddrescueshow.Goals as goal

pub returns-clause-promise : goal.returns-clause-promise
returns-clause-promise g c =
    said (show_program c.args.terminal) _ _ _ _ _ _ c.work-ending.ensures.done c.say_ending.ensures
