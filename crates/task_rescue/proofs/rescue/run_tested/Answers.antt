use Rattle.rescue_rules.specs.Across.{across}
use Rattle.std.proofs.Common.{subst, rules, None, Some}
use Rattle.faulty_source.specs.SourceChanges.{Keeps as SourceKeeps, Stays as SourceStays}
use Rattle.rescue_domain.proofs.TestingLemmas.{stays_below}
use Rattle.ddrescue_words.specs.Asking.{told_by}
use Rattle.rescue_rules.specs.Setting.{Setting}
use Rattle.task_files.specs.Asked.{setting_of}
use Rattle.task_files.specs.Answers.{Causes}
use Rattle.task_files.specs.Steps.{DidRun, maps_read}
use Rattle.task_rescue.proofs.TestedLemmas.{ran_below, causes_below}
use Rattle.task_rescue.proofs.rescue.run_tested.Goals as goal

pub returns-in-None-clause-ran : goal.returns-in-None-clause-ran
returns-in-None-clause-ran g c = rw c.in-None.is (c.run.ensures.ran None)

pub returns-clause-ran : goal.returns-clause-ran
returns-clause-ran g c =
    let state = g.S.Source.state in
    let new = c.run-in-Some.new.outside in
    let loaded = c.args.files.loaded in
    let s : Setting = setting_of (told_by c.args.checked.command) c.args.checked.heading.line loaded.end
    (maps_read c.args.checked.command.options loaded.domain_map (Some c.in-Some.tiles) loaded.map) in
    rw c.in-Some.is
    (subst
    (λ (x : g.row.S.Denot). DidRun s (Some c.in-Some.tiles.statuses) loaded.map.tiles.statuses loaded.map.state
    c.args.checked.heard c.run-in-Some.result.heard c.run-in-Some.result.ending
    (across (state c.args.outside.now.source.now) (state x) (g.D.Site.state c.args.outside.now.site.now) (g.D.Site.state new.site.now)
    (g.K.Clock.state c.args.outside.now.clock.now) (g.K.Clock.state new.clock.now) (g.C.Console.state c.args.outside.now.console.now)
    (g.C.Console.state new.console.now)))
    {x = new.source.now.inner.now}
    (search rules)
    (ran_below _ _ _ _ _ _ _ c.new-tested.ensures.state c.run-in-Some.ensures.source.keeps s _ _ _ _ _ _ _ _ _ _ _
    (c.run-in-Some.ensures.ran (Some c.in-Some.tiles))))

pub returns-clause-leaves : goal.returns-clause-leaves
returns-clause-leaves g c =
    let state = g.S.Source.state in
    let new = c.run-in-Some.new.outside in
    record {
      cause = subst
          (λ (s : g.row.S.Denot). Causes c.run-in-Some.result.ending (state c.args.outside.now.source.now) (state s)
          (g.D.Site.state c.args.outside.now.site.now) (g.D.Site.state new.site.now))
          {x = new.source.now.inner.now}
          (search rules)
          (causes_below _ _ _ _ _ _ _ c.new-tested.ensures.state c.run-in-Some.ensures.source.keeps _ _ _
          c.run-in-Some.ensures.leaves.cause);
      draft = c.run-in-Some.ensures.leaves.draft;
      source = subst
          (λ (s : g.row.S.Denot). SourceKeeps (state c.args.outside.now.source.now) (state s))
          {x = new.source.now.inner.now}
          (search rules)
          (stays_below _ _ _ _ _ _ _ c.new-tested.ensures.state c.run-in-Some.ensures.source.keeps
          c.run-in-Some.ensures.source).keeps;
      site = c.run-in-Some.ensures.leaves.site;
      clock = c.run-in-Some.ensures.leaves.clock;
    }

pub returns-clause-source : goal.returns-clause-source
returns-clause-source g c =
    let state = g.S.Source.state in
    subst
    (λ (s : g.row.S.Denot). SourceStays (state c.args.outside.now.source.now) (state s))
    {x = c.run-in-Some.new.outside.source.now.inner.now}
    (search rules)
    (stays_below _ _ _ _ _ _ _ c.new-tested.ensures.state c.run-in-Some.ensures.source.keeps
    c.run-in-Some.ensures.source)
