-- By what the words ask for, and by how far the work came.
use Rattle.std.proofs.Common.{ap, subst, sym}
use Rattle.mapfile_text.specs.HeadingLines.{HeadingLines}
use Rattle.option_words.specs.declared.command_error.CommandError.{CommandError}
use Rattle.option_words.specs.declared.command_error.CommandError.TheVariants.{Usage}
use Rattle.program_promise.proofs.PromiseLemmas.{refused, starved}
use Rattle.ddrescueverify_words.specs.Command.{Command, told_by, IsErrorOf}
use Rattle.ddrescueverify_cli.specs.Ddrescueverify.{verify_program}
use Rattle.ddrescueverify_cli.specs.Reporting.{AnswersAs}
use Rattle.ddrescueverify_cli.proofs.PromiseLemmas.{apart_never, asked_done, named, verify_made}
use Rattle.ddrescueverify_cli.proofs.WorkedLemmas.{checked_worked, still_worked}
use Rattle.ddrescueverify_cli.proofs.verify.work.Goals as goal

pub returns-in-Err-NoMemory-clause-done : goal.returns-in-Err-NoMemory-clause-done
returns-in-Err-NoMemory-clause-done g c = λ answer before after a.
    rw (a.0, a.1) (starved verify_program verify_made c.args.words.now _ c.requires)

pub returns-in-Err-Usage-clause-done : goal.returns-in-Err-Usage-clause-done
returns-in-Err-Usage-clause-done g c = λ answer before after a.
    let refusal : IsErrorOf c.args.words.now (Usage c.in-Err-Usage.fault c.in-Err-Usage.quiet) =
    subst (λ (e : CommandError). IsErrorOf c.args.words.now e) c.in-Err-Usage.field-0-is
    c.in-Err-Usage.ensures.refused in
    rw (a.0, a.1) (rw c.in-Err-Usage.fault-is (rw c.in-Err-Usage.quiet-is
    (refused verify_program verify_made c.args.words.now c.in-Err-Usage.fault c.in-Err-Usage.quiet _ c.requires refusal)))

pub returns-in-Ok-check_command-clause-done : goal.returns-in-Ok-check_command-clause-done
returns-in-Ok-check_command-clause-done g c = λ answer before after a.
    asked_done c.args.words.now (told_by c.in-Ok.command) answer _ _ c.in-Ok.ensures.asked
    (checked_worked (told_by c.in-Ok.command) c.args.words.now c.verify.result answer _ _ _ _ before after
    (told_by c.in-Ok-check_command.checked.command) c.in-Ok-check_command.checked.heading.line
    c.in-Ok-check_command.ensures.command
    (ap (λ (h : HeadingLines). h.line) c.in-Ok-check_command.ensures.heading)
    c.in-Ok-check_command.ensures.different
    (record {
      went = c.verify.ensures.went;
      cause = c.verify.ensures.cause;
      draft = c.verify.ensures.draft;
      source = c.verify.ensures.source;
      site = c.verify.ensures.site;
      answers = subst (λ (x : Command). AnswersAs x.options.quiet c.verify.result answer before after)
          (sym c.in-Ok-check_command.ensures.command) a;
    }))

pub returns-in-Err-clause-done : goal.returns-in-Err-clause-done
returns-in-Err-clause-done g c = λ answer before after a.
    rw (a.0, a.1) (asked_done c.args.words.now (told_by c.in-Ok.command) _ _ _ c.in-Ok.ensures.asked
    (still_worked (told_by c.in-Ok.command) c.args.words.now _ _ _ c.requires _ c.in-Err.ensures.refused))

pub returns-in-Ok-check_command-clause-untouched : goal.returns-in-Ok-check_command-clause-untouched
returns-in-Ok-check_command-clause-untouched g c = λ fault refusal.
    absurd (c.in-Ok.ensures.asked.only.accepted fault refusal)

pub returns-in-Ok-check_command-clause-unopened : goal.returns-in-Ok-check_command-clause-unopened
returns-in-Ok-check_command-clause-unopened g c = λ first second twice.
    absurd (apart_never _ c.in-Ok-check_command.ensures.different first second
    (named c.args.words.now (told_by c.in-Ok.command) c.in-Ok.ensures.asked first second twice))
