-- By what the words ask for.
use Rattle.std.proofs.Common.{subst}
use Rattle.option_words.specs.declared.command_error.CommandError.{CommandError}
use Rattle.option_words.specs.declared.command_error.CommandError.TheVariants.{Usage}
use Rattle.program_promise.proofs.PromiseLemmas.{refused, starved}
use Rattle.ddrescueplan_words.specs.Command.{told_by, IsErrorOf}
use Rattle.ddrescueplan_cli.specs.Ddrescueplan.{plan_program}
use Rattle.ddrescueplan_cli.proofs.PromiseLemmas.{asked_done, plan_made}
use Rattle.ddrescueplan_cli.proofs.plan.work.Goals as goal

pub returns-in-Err-NoMemory-clause-done : goal.returns-in-Err-NoMemory-clause-done
returns-in-Err-NoMemory-clause-done g c = starved plan_program plan_made c.args.words.now _ tt

pub returns-in-Err-Usage-clause-done : goal.returns-in-Err-Usage-clause-done
returns-in-Err-Usage-clause-done g c =
    let refusal : IsErrorOf c.args.words.now (Usage c.in-Err-Usage.fault c.in-Err-Usage.quiet) =
    subst (λ (e : CommandError). IsErrorOf c.args.words.now e) c.in-Err-Usage.field-0-is
    c.in-Err-Usage.ensures.refused in
    rw c.in-Err-Usage.fault-is (rw c.in-Err-Usage.quiet-is
    (refused plan_program plan_made c.args.words.now c.in-Err-Usage.fault c.in-Err-Usage.quiet _ tt refusal))

pub returns-clause-done : goal.returns-clause-done
returns-clause-done g c =
    asked_done c.args.words.now (told_by c.in-Ok.command) _ _ _ c.in-Ok.ensures.asked (c.run-ending.ensures c.args.words.now)

pub returns-clause-untouched : goal.returns-clause-untouched
returns-clause-untouched g c = λ fault refusal. absurd (c.in-Ok.ensures.asked.only.accepted fault refusal)
