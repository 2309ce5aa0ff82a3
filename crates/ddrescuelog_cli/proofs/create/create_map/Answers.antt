-- By the step at which the work stopped.
use Rattle.ddrescuelog_words.specs.Command.{told_by}
use Rattle.ddrescuelog_cli.proofs.CreateLemmas.{created_starved, created_stopped, created_refused, created, is_alone, feed_after_save}
use Rattle.ddrescuelog_cli.proofs.create.create_map.Goals as goal

pub returns-in_default-clause-work : goal.returns-in_default-clause-work
returns-in_default-clause-work g c = λ line is. created_starved (told_by c.args.command.now) line _ _

pub returns-in-Err-clause-work : goal.returns-in-Err-clause-work
returns-in-Err-clause-work g c = λ line is.
    created_stopped (told_by c.args.command.now) line c.in-Err.refusal _ _ _ c.in-Err.ensures.looks

pub returns-in-Ok-make_map-clause-work : goal.returns-in-Ok-make_map-clause-work
returns-in-Ok-make_map-clause-work g c = λ line is.
    created (told_by c.args.command.now) line c.args.heading.now c.in-Ok.names c.args.marks.listed c.args.marks.rest
    c.in-Ok-look.domain_map c.in-Ok-make_map.map _ _ _ _ _ _ c.requires.mode
    (is_alone _ _ _ c.requires.limits c.requires.mode) c.in-Ok.ensures
    c.in-Ok-look.ensures.site.keeps.tells is c.in-Ok-look.ensures.looks c.in-Ok-make_map.ensures.makes
    c.save_map.ensures.saves

pub returns-in-Ok-make_map-clause-feed : goal.returns-in-Ok-make_map-clause-feed
returns-in-Ok-make_map-clause-feed g c =
    feed_after_save c.in-Ok.names _ _ _ _ _ _ c.save_map.ensures.saves c.in-Ok-make_map.ensures.feed

pub returns-clause-work : goal.returns-clause-work
returns-clause-work g c = λ line is.
    created_refused (told_by c.args.command.now) line c.args.marks.listed c.args.marks.rest c.in-Ok-look.domain_map
    c.in-Err-make_map.refusal _ _ _ _ c.requires.mode (is_alone _ _ _ c.requires.limits c.requires.mode)
    c.in-Ok-look.ensures.looks c.in-Err-make_map.ensures.makes
