-- By why the words are no picture's.
use Rattle.std.proofs.Common.{subst}
use Rattle.option_words.specs.declared.command_error.CommandError.{CommandError}
use Rattle.option_words.specs.declared.command_error.CommandError.TheVariants.{Usage}
use Rattle.ddrescueshow_words.specs.Command.{IsErrorOf, told_by}
use Rattle.ddrescueshow_cli.proofs.AskedLemmas.{drawn, followed, undrawn}
use Rattle.ddrescueshow_cli.proofs.asked.asks_to_follow.Goals as goal

pub returns-in-Ok-clause-follows : goal.returns-in-Ok-clause-follows
returns-in-Ok-clause-follows c = drawn c.args.words.now _ c.in-Ok.ensures.asked

pub returns-in-Err-Usage-clause-follows : goal.returns-in-Err-Usage-clause-follows
returns-in-Err-Usage-clause-follows c =
    let refusal : IsErrorOf c.args.words.now (Usage c.in-Err-Usage.fault c.in-Err-Usage.field-0-1) =
    subst (λ (e : CommandError). IsErrorOf c.args.words.now e) c.in-Err-Usage.field-0-is c.in-Err-Usage.ensures.refused in
    followed c.args.words.now c.in-Err-Usage.fault c.in-Err-Usage.field-0-1 _ refusal c.is_at_progress.ensures

pub returns-in-Err-Usage-clause-draws : goal.returns-in-Err-Usage-clause-draws
returns-in-Err-Usage-clause-draws c =
    let refusal : IsErrorOf c.args.words.now (Usage c.in-Err-Usage.fault c.in-Err-Usage.field-0-1) =
    subst (λ (e : CommandError). IsErrorOf c.args.words.now e) c.in-Err-Usage.field-0-is c.in-Err-Usage.ensures.refused in
    undrawn c.args.words.now c.in-Err-Usage.fault c.in-Err-Usage.field-0-1 _ refusal
