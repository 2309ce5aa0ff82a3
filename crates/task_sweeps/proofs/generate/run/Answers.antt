use Rattle.std.proofs.Common.{rules, None, sym, ap, ◌∙◌, arith}
use Rattle.faulty_source.proofs.Keeping.{keeps_self}
use Rattle.rescue_core.proofs.ObjectLemmas.{clock_keeps}
use Rattle.run_options.specs.declared.settings.Settings.{Settings}
use Rattle.ddrescue_words.specs.Asking.{told_by}
use Rattle.task_files.specs.Answers.{drafting_left}
use Rattle.task_files.specs.Asked.{Maps}
use Rattle.task_files.specs.Steps.{maps_read}
use Rattle.task_sweeps.proofs.SweptEnds.{sweep_cause, nothing_left, draft_as}
use Rattle.task_sweeps.proofs.SweptLemmas.{generated_so, generated_none, job_suits, job_heading}
use Rattle.task_sweeps.proofs.generate.run.Goals as goal
use Rattle.fill_generate.specs.Sweeping.{around}

pub run_generate-closed-requires-clause-room : goal.run_generate-closed-requires-clause-room
run_generate-closed-requires-clause-room g c =
    let loaded = c.args.loaded in
    let maps : Maps = maps_read c.args.checked.command.options loaded.domain_map None loaded.map in
    let is = c.make_job-job.ensures loaded.end maps loaded.map.tiles.statuses loaded.map.state c.requires.begins.placed
    (c.in-Ok.ensures None) in
    rw (ap (λ (s : Settings). s.cluster) is.settings_are) (search rules)

pub run_generate-closed-requires-clause-sweeps : goal.run_generate-closed-requires-clause-sweeps
run_generate-closed-requires-clause-sweeps g c =
    let loaded = c.args.loaded in
    let maps : Maps = maps_read c.args.checked.command.options loaded.domain_map None loaded.map in
    let is = c.make_job-job.ensures loaded.end maps loaded.map.tiles.statuses loaded.map.state c.requires.begins.placed
    (c.in-Ok.ensures None) in
    record { sound = is.sound; suits = job_suits _ _ _ _ _ _ _ _ _ _ is; places = is.places }

pub run_generate-closed-requires-clause-program : goal.run_generate-closed-requires-clause-program
run_generate-closed-requires-clause-program g c =
    let loaded = c.args.loaded in
    let maps : Maps = maps_read c.args.checked.command.options loaded.domain_map None loaded.map in
    job_heading _ _ _ _ _ _ _ _ _ _
    (c.make_job-job.ensures loaded.end maps loaded.map.tiles.statuses loaded.map.state c.requires.begins.placed
    (c.in-Ok.ensures None))
    c.requires.checked.heading

pub returns-in_default-make_sweep-clause-ran : goal.returns-in_default-make_sweep-clause-ran
returns-in_default-make_sweep-clause-ran g c = λ test.
    let loaded = c.args.loaded in
    generated_none _ loaded.map.tiles.statuses loaded.map.state c.args.checked.heard
    (g.S.Source.state c.args.outside.now.source.now) (g.D.Site.state c.args.outside.now.site.now)
    (g.K.Clock.state c.args.outside.now.clock.now) (g.C.Console.state c.args.outside.now.console.now)

pub returns-in_default-vec-clause-ran : goal.returns-in_default-vec-clause-ran
returns-in_default-vec-clause-ran g c = λ test.
    let loaded = c.args.loaded in
    generated_none _ loaded.map.tiles.statuses loaded.map.state c.args.checked.heard
    (g.S.Source.state c.args.outside.now.source.now) (g.D.Site.state c.args.outside.now.site.now)
    (g.K.Clock.state c.args.outside.now.clock.now) (g.C.Console.state c.args.outside.now.console.now)

pub returns-in_default-make_sweep-clause-leaves : goal.returns-in_default-make_sweep-clause-leaves
returns-in_default-make_sweep-clause-leaves g c =
    nothing_left _ (g.D.Site.state c.args.outside.now.site.now) _ _ c.requires.no_draft

pub returns-in_default-vec-clause-leaves : goal.returns-in_default-vec-clause-leaves
returns-in_default-vec-clause-leaves g c =
    nothing_left _ (g.D.Site.state c.args.outside.now.site.now) _ _ c.requires.no_draft

pub returns-clause-ran : goal.returns-clause-ran
returns-clause-ran g c = λ test.
    let loaded = c.args.loaded in
    let maps : Maps = maps_read c.args.checked.command.options loaded.domain_map test loaded.map in
    generated_so (told_by c.args.checked.command) c.in-Some.names c.args.checked.heading loaded.end maps
    loaded.map.tiles.statuses loaded.map.state c.now_ms-moment.result c.args.checked.heard c.say_line-heard.result
    c.run_generate-closed.result.heard c.in-Ok.ready c.make_job-job.result c.run_generate-closed.result.end c.answer.result
    (around (g.D.Site.state c.args.outside.now.site.now) (g.D.Site.state c.run_generate-closed.new.site)
    (g.K.Clock.state c.now_ms-moment.new.self) (g.K.Clock.state c.run_generate-closed.new.clock)
    (g.C.Console.state c.say_line-heard.new.console) (g.C.Console.state c.run_generate-closed.new.console))
    (g.S.Source.state c.args.outside.now.source.now) (g.K.Clock.state c.args.outside.now.clock.now)
    (g.C.Console.state c.args.outside.now.console.now)
    (sym c.requires.checked.names ∙ c.in-Some.is) (c.in-Ok.ensures test)
    (c.make_job-job.ensures loaded.end maps loaded.map.tiles.statuses loaded.map.state c.requires.begins.placed
    (c.in-Ok.ensures test))
    c.run_generate-closed.ensures.sweeps c.answer.ensures c.now_ms-moment.ensures.told (omega arith) c.say_line-heard.ensures

pub returns-clause-leaves : goal.returns-clause-leaves
returns-clause-leaves g c = record {
  cause = sweep_cause _ _ _ _ _ _ _ _ _ c.run_generate-closed.ensures.sweeps.sweeps.ends c.answer.ensures;
  draft = c.run_generate-closed.ensures.draft ∙ draft_as c.run_generate-closed.result.end ∙ ap drafting_left (sym c.answer.ensures);
  source = keeps_self _;
  site = c.run_generate-closed.ensures.site;
  clock = clock_keeps _ _ _ c.now_ms-moment.ensures.keeps c.run_generate-closed.ensures.clock;
}
