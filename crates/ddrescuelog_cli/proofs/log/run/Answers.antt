-- By what the command asks for.
use Rattle.std.proofs.Common.{◌≡◌, false, ap, rules}
use Rattle.option_words.specs.Words.{command_line}
use Rattle.ddrescuelog_words.specs.Modes.{creates}
use Rattle.ddrescuelog_words.specs.Command.{told_by}
use Rattle.ddrescuelog_cli.specs.Names.{program_name}
use Rattle.ddrescuelog_cli.specs.Modes.{prints}
use Rattle.ddrescuelog_cli.proofs.WorkedLemmas.{creates_ran, feed_created, ran_untaken, ran_worked, starved_worked}
use Rattle.ddrescuelog_cli.proofs.log.run.Goals as goal

pub returns-in_default : goal.returns-in_default
returns-in_default g c =
    starved_worked (told_by c.args.command.now) c.args.words.now (g.D.Site.state c.args.site.now)
    (g.I.Feed.state c.args.feed.now) (g.P.Console.state c.args.console.now) c.requires.none

pub returns-in-Create : goal.returns-in-Create
returns-in-Create g c =
    let k = told_by c.args.command.now in
    let made = c.create_map.ensures in
    ran_worked k c.args.words.now c.create_map.result _ _ _ _ _ _ c.requires.none
    (creates_ran k (command_line program_name c.args.words.now) c.create_map.result
    (g.D.Site.state c.args.site.now) (g.D.Site.state c.create_map.new.site) (g.I.Feed.state c.args.feed.now)
    (g.I.Feed.state c.create_map.new.feed) (g.P.Console.state c.args.console.now) (ap creates c.in-Create.is)
    (ap prints c.in-Create.is) (made.work (command_line program_name c.args.words.now) c.in-Ok.ensures))
    made.site (feed_created (creates c.args.command.now.mode) _ _ _ (ap creates c.in-Create.is) made.feed)

pub returns : goal.returns
returns g c =
    let k = told_by c.args.command.now in
    let reads : creates c.args.command.now.mode ≡ false = search rules in
    let ran =
    c.run_over_maps.ensures.work (command_line program_name c.args.words.now) (g.I.Feed.state c.args.feed.now)
    c.in-Ok.ensures in
    ran_worked k c.args.words.now c.run_over_maps.result _ _ _ _ _ _ c.requires.none ran c.run_over_maps.ensures.site
    (ran_untaken k (command_line program_name c.args.words.now) c.run_over_maps.result _ _
    (g.I.Feed.state c.args.feed.now) reads ran)
