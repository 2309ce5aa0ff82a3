-- By whether a file stands there, and what the read of the domain map answered.
use Rattle.ddrescuelog_words.specs.Command.{told_by}
use Rattle.ddrescuelog_cli.proofs.LookLemmas.{looks_stopped, looks_by}
use Rattle.ddrescuelog_cli.proofs.create.look.Goals as goal

pub returns-in-Ok-clause-looks : goal.returns-in-Ok-clause-looks
returns-in-Ok-clause-looks g c =
    looks_by (told_by c.args.command.now) tt c.mode_of-mode.result c.read_named.result _ _ _ c.requires
    c.mode_of-mode.ensures c.in-Ok.ensures.site.keeps.tells c.in-Ok.ensures.asks c.read_named.ensures.read

pub returns-in-Err-clause-looks : goal.returns-in-Err-clause-looks
returns-in-Err-clause-looks g c =
    looks_stopped (told_by c.args.command.now) c.in-Err.refusal _ _ c.requires c.in-Err.ensures.asks
