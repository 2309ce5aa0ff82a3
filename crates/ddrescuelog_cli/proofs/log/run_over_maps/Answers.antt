-- By how far it came.
use Rattle.ddrescuelog_words.specs.Command.{told_by}
use Rattle.ddrescuelog_cli.proofs.AfterLemmas.{removing_prints_nothing}
use Rattle.ddrescuelog_cli.proofs.WorkedLemmas.{load_stopped, load_removed, load_found, found_after}
use Rattle.ddrescuelog_cli.proofs.log.run_over_maps.Goals as goal

pub returns-in-Err-clause-work : goal.returns-in-Err-clause-work
returns-in-Err-clause-work g c = λ line feed heads.
    load_stopped (told_by c.args.command.now) line c.in-Err.refusal (g.D.Site.state c.args.site.now)
    (g.D.Site.state c.load_maps.new.site) feed (g.P.Console.state c.args.console.now) c.requires.reads
    c.in-Err.ensures.maps c.in-Err.ensures.cause

pub returns-then-row-clause-work : goal.returns-then-row-clause-work
returns-then-row-clause-work g c = λ line feed heads.
    load_removed (told_by c.args.command.now) line c.in-Ok.loaded c.remove_done.result
    (g.D.Site.state c.args.site.now) (g.D.Site.state c.load_maps.new.site) (g.D.Site.state c.remove_done.new.site) feed
    (g.P.Console.state c.args.console.now) c.requires.reads
    (removing_prints_nothing c.args.command.now.mode (rw c.row.ensures at c.if-row.true))
    c.in-Ok.ensures.maps c.load_maps.ensures.site c.remove_done.ensures.work

pub returns-clause-work : goal.returns-clause-work
returns-clause-work g c = λ line feed heads.
    load_found (told_by c.args.command.now) line c.in-Ok.loaded c.args.heading.now c.find.result
    (g.D.Site.state c.args.site.now) (g.D.Site.state c.load_maps.new.site) feed (g.P.Console.state c.args.console.now)
    (g.P.Console.state c.find.new.console) c.requires.reads c.in-Ok.ensures.maps c.load_maps.ensures.site heads
    c.find.ensures

pub returns-clause-site : goal.returns-clause-site
returns-clause-site g c =
    found_after (told_by c.args.command.now) c.in-Ok.loaded c.args.heading.now c.find.result
    (g.D.Site.state c.args.site.now) (g.D.Site.state c.load_maps.new.site) (g.P.Console.state c.args.console.now)
    (g.P.Console.state c.find.new.console) c.requires.reads (rw c.row.ensures at c.if-row.false)
    c.in-Ok.ensures.maps c.load_maps.ensures.site c.in-Ok.ensures.kept c.find.ensures
