-- By what came of the reads, and of the put.
use Rattle.std.proofs.Common.{◌∙◌, sym}
use Rattle.ddrescueshow_words.specs.Command.{told_by}
use Rattle.ddrescueshow_cli.proofs.WorkedLemmas.{first_stopped, put_worked, refused_worked, second_stopped, starved_worked, unput_worked}
use Rattle.ddrescueshow_cli.proofs.show.run.Goals as goal

pub returns-then-is_too_large : goal.returns-then-is_too_large
returns-then-is_too_large g c = λ words.
    refused_worked c.args.terminal (told_by c.args.command.now) words _ _
    (sym c.is_too_large.ensures ∙ c.if-is_too_large.true)

pub returns-in-Err : goal.returns-in-Err
returns-in-Err g c = λ words.
    let failed = c.in-Err.ensures in
    first_stopped c.args.terminal (told_by c.args.command.now) words (sym c.is_too_large.ensures ∙ c.if-is_too_large.false) c.in-Err.refusal _ _ _
    failed.told failed.cause failed.site

pub returns-in-Err-read_named : goal.returns-in-Err-read_named
returns-in-Err-read_named g c = λ words.
    let first = c.in-Ok.ensures in
    let failed = c.in-Err-read_named.ensures in
    second_stopped c.args.terminal (told_by c.args.command.now) words (sym c.is_too_large.ensures ∙ c.if-is_too_large.false) _ _ _ c.in-Ok.tiles first.told
    first.site failed.site first.kept c.in-Err-read_named.refusal _ failed.told failed.cause

pub returns-in_default : goal.returns-in_default
returns-in_default g c = λ words.
    let first = c.in-Ok.ensures in
    let second = c.in-Ok-read_named.ensures in
    starved_worked c.args.terminal (told_by c.args.command.now) words (sym c.is_too_large.ensures ∙ c.if-is_too_large.false) _ _ _ c.in-Ok.tiles first.told
    first.site second.site first.kept c.in-Ok-read_named.domain_map second.told second.kept _

pub returns-in-Ok-put : goal.returns-in-Ok-put
returns-in-Ok-put g c = λ words.
    let first = c.in-Ok.ensures in
    let second = c.in-Ok-read_named.ensures in
    put_worked c.args.terminal (told_by c.args.command.now) words (sym c.is_too_large.ensures ∙ c.if-is_too_large.false) _ _ _ c.in-Ok.tiles first.told
    first.site second.site first.kept c.in-Ok-read_named.domain_map second.told second.kept _ _ _
    (c.deref.ensures.value ∙ c.in-Ok-draw_maps.ensures) c.in-Ok-put.ensures.puts

pub returns : goal.returns
returns g c = λ words.
    let first = c.in-Ok.ensures in
    let second = c.in-Ok-read_named.ensures in
    unput_worked c.args.terminal (told_by c.args.command.now) words (sym c.is_too_large.ensures ∙ c.if-is_too_large.false) _ _ _ c.in-Ok.tiles first.told
    first.site second.site first.kept c.in-Ok-read_named.domain_map second.told second.kept _ _ _
    (c.deref.ensures.value ∙ c.in-Ok-draw_maps.ensures) c.in-Err-put.ensures.fails
