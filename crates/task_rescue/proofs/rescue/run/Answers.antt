use Rattle.std.proofs.Common.{None, refl, arith}
use Rattle.faulty_source.proofs.Keeping.{keeps_self, stays_self}
use Rattle.mapfile_save.proofs.FillLemmas.{keeps_self as site_keeps_self}
use Rattle.ddrescue_words.specs.Asking.{told_by}
use Rattle.task_files.specs.Asked.{Maps}
use Rattle.task_files.specs.Steps.{maps_read}
use Rattle.task_rescue.proofs.RanLemmas.{ran_by, ran_unbegun}
use Rattle.task_rescue.proofs.rescue.run.Goals as goal
use Rattle.rescue_rules.specs.Across.{across}

pub run_rescue-closed-requires-clause-copying : goal.run_rescue-closed-requires-clause-copying
run_rescue-closed-requires-clause-copying g c =
    let loaded = c.args.loaded in
    let maps : Maps = maps_read c.args.checked.command.options loaded.domain_map None loaded.map in
    (c.begin-rescue.ensures loaded.end maps loaded.map.tiles.statuses loaded.map.state c.requires.begins.placed c.requires.begins.fits
    (c.in-Ok.ensures.ready None)).copying

pub run_rescue-closed-requires-clause-places : goal.run_rescue-closed-requires-clause-places
run_rescue-closed-requires-clause-places g c =
    let loaded = c.args.loaded in
    let maps : Maps = maps_read c.args.checked.command.options loaded.domain_map None loaded.map in
    (c.begin-rescue.ensures loaded.end maps loaded.map.tiles.statuses loaded.map.state c.requires.begins.placed c.requires.begins.fits
    (c.in-Ok.ensures.ready None)).places

pub returns-in_default-clause-ran : goal.returns-in_default-clause-ran
returns-in_default-clause-ran g c = λ test.
    let loaded = c.args.loaded in
    ran_unbegun _ loaded.map.tiles.statuses loaded.map.state c.args.checked.heard (g.S.Source.state c.args.outside.now.source.now)
    (g.D.Site.state c.args.outside.now.site.now) (g.K.Clock.state c.args.outside.now.clock.now) (g.C.Console.state c.args.outside.now.console.now)

pub returns-in_default-clause-leaves : goal.returns-in_default-clause-leaves
returns-in_default-clause-leaves g c = record {
  cause = record { opens = refl; reads = refl; calls = refl; also = tt };
  draft = c.requires.ready.no_draft;
  source = keeps_self _;
  site = site_keeps_self _;
  clock = record { scheduled = refl; schedule = refl };
}

pub returns-in_default-clause-source : goal.returns-in_default-clause-source
returns-in_default-clause-source g c = stays_self _

pub returns-clause-ran : goal.returns-clause-ran
returns-clause-ran g c = λ test.
    let loaded = c.args.loaded in
    let maps : Maps = maps_read c.args.checked.command.options loaded.domain_map test loaded.map in
    ran_by (told_by c.args.checked.command) c.args.checked.names c.args.checked.heading.line loaded.end maps
    loaded.map.tiles.statuses loaded.map.state c.now_ms-moment.result c.args.checked.heard c.say_line-heard.result
    c.run_rescue-closed.result.heard c.in-Ok.ready c.begin-rescue.result c.run_rescue-closed.result.end c.answer.result
    (across (g.S.Source.state c.args.outside.now.source.now) (g.S.Source.state c.run_rescue-closed.new.source)
    (g.D.Site.state c.args.outside.now.site.now) (g.D.Site.state c.run_rescue-closed.new.site)
    (g.K.Clock.state c.now_ms-moment.new.self) (g.K.Clock.state c.run_rescue-closed.new.clock)
    (g.C.Console.state c.say_line-heard.new.console) (g.C.Console.state c.run_rescue-closed.new.console))
    (g.K.Clock.state c.args.outside.now.clock.now) (g.C.Console.state c.args.outside.now.console.now) c.requires.checked.names
    (c.in-Ok.ensures.ready test)
    (c.begin-rescue.ensures loaded.end maps loaded.map.tiles.statuses loaded.map.state c.requires.begins.placed c.requires.begins.fits
    (c.in-Ok.ensures.ready test))
    c.run_rescue-closed.ensures.went c.answer.ensures c.now_ms-moment.ensures.told (omega arith)
    c.say_line-heard.ensures
