use Rattle.std.proofs.Common.{subst}
use Rattle.option_words.specs.declared.command_error.CommandError.{CommandError}
use Rattle.option_words.specs.declared.command_error.CommandError.TheVariants.{Usage}
use Rattle.ddrescue_words.specs.Asking.{IsErrorOf}
use Rattle.ddrescue_cli.proofs.MadeLemmas.{starved_said, refused_said}
use Rattle.ddrescue_cli.proofs.job.read_job.Goals as goal

pub returns-in-Err-NoMemory-clause-refused : goal.returns-in-Err-NoMemory-clause-refused
returns-in-Err-NoMemory-clause-refused c = λ w none. starved_said c.args.words.now w none

pub returns-in-Err-Usage-clause-refused : goal.returns-in-Err-Usage-clause-refused
returns-in-Err-Usage-clause-refused c = λ w none.
    let refusal : IsErrorOf c.args.words.now (Usage c.in-Err-Usage.fault c.in-Err-Usage.quiet) =
    subst (λ (e : CommandError). IsErrorOf c.args.words.now e) c.in-Err-Usage.field-0-is c.in-Err-Usage.ensures.refused in
    rw (c.in-Err-Usage.fault-is, c.in-Err-Usage.quiet-is)
    (refused_said c.args.words.now c.in-Err-Usage.fault c.in-Err-Usage.quiet w none refusal)
