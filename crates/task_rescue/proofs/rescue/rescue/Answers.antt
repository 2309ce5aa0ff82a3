use Rattle.std.proofs.Common.{refl, sym, ◌∙◌}
use Rattle.std.proofs.lemmas.Result.{err_from_is_err_and}
use Rattle.faulty_source.proofs.Keeping.{keeps_self}
use Rattle.mapfile_save.proofs.FillLemmas.{keeps_more as site_keeps_more}
use Rattle.ddrescue_words.specs.Asking.{told_by}
use Rattle.task_files.specs.declared.ending.Which.TheVariants.{DomainMap, TestMap}
use Rattle.task_files.proofs.CauseLemmas.{map_causes, map_drafts, causes_after}
use Rattle.task_files.proofs.WorkedLemmas.{worked_domain, worked_test, worked_after}
use Rattle.task_rescue.proofs.rescue.rescue.Goals as goal

pub returns-in_err-domain_map-clause-worked : goal.returns-in_err-domain_map-clause-worked
returns-in_err-domain_map-clause-worked g c =
    let p = err_from_is_err_and c.from_residual.result c.from_residual.ensures.1 in
    rw (p.1, p.2) (worked_domain (told_by c.args.checked.command) _ c.args.checked.heard _ (g.S.Source.state c.args.outside.now.source.now)
    (g.D.Site.state c.args.outside.now.site.now) (g.D.Site.state c.read_named.new.site) (g.K.Clock.state c.args.outside.now.clock.now)
    (g.C.Console.state c.args.outside.now.console.now) c.in_err-domain_map.ensures.told)

pub returns-in_err-domain_map-clause-leaves : goal.returns-in_err-domain_map-clause-leaves
returns-in_err-domain_map-clause-leaves g c =
    let p = err_from_is_err_and c.from_residual.result c.from_residual.ensures.1 in
    rw (p.1, p.2) (record {
      cause = map_causes DomainMap _ (g.S.Source.state c.args.outside.now.source.now)
          (g.D.Site.state c.args.outside.now.site.now) (g.D.Site.state c.read_named.new.site) (λ is. cc)
          c.in_err-domain_map.ensures.cause;
      draft = c.in_err-domain_map.ensures.site.draft ∙ c.requires.no_draft
          ∙ sym (map_drafts DomainMap _ _ _ c.in_err-domain_map.ensures.cause);
      source = keeps_self _;
      site = c.in_err-domain_map.ensures.site.keeps;
      clock = record { scheduled = refl; schedule = refl };
    })

pub returns-in_err-test_map-clause-worked : goal.returns-in_err-test_map-clause-worked
returns-in_err-test_map-clause-worked g c =
    let p = err_from_is_err_and c.from_residual-in_err-test_map.result c.from_residual-in_err-test_map.ensures.1 in
    rw (p.1, p.2) (worked_test (told_by c.args.checked.command) _ c.in_ok-domain_map.domain_map c.args.checked.heard _
    (g.S.Source.state c.args.outside.now.source.now) (g.D.Site.state c.args.outside.now.site.now) (g.D.Site.state c.read_named.new.site)
    (g.D.Site.state c.read_named-2.new.site) (g.K.Clock.state c.args.outside.now.clock.now)
    (g.C.Console.state c.args.outside.now.console.now)
    c.in_ok-domain_map.ensures.told c.in_ok-domain_map.ensures.site c.in_err-test_map.ensures.told)

pub returns-in_err-test_map-clause-leaves : goal.returns-in_err-test_map-clause-leaves
returns-in_err-test_map-clause-leaves g c =
    let p = err_from_is_err_and c.from_residual-in_err-test_map.result c.from_residual-in_err-test_map.ensures.1 in
    rw (p.1, p.2) (record {
      cause = causes_after _ (g.S.Source.state c.args.outside.now.source.now)
          (g.S.Source.state c.args.outside.now.source.now) (g.S.Source.state c.args.outside.now.source.now)
          (g.D.Site.state c.args.outside.now.site.now) (g.D.Site.state c.read_named.new.site)
          (g.D.Site.state c.read_named-2.new.site) refl refl c.in_ok-domain_map.ensures.kept
          (map_causes TestMap _ (g.S.Source.state c.args.outside.now.source.now)
          (g.D.Site.state c.read_named.new.site) (g.D.Site.state c.read_named-2.new.site) (λ is. cc)
          c.in_err-test_map.ensures.cause);
      draft = c.in_err-test_map.ensures.site.draft ∙ c.in_ok-domain_map.ensures.site.draft ∙ c.requires.no_draft
          ∙ sym (map_drafts TestMap _ _ _ c.in_err-test_map.ensures.cause);
      source = keeps_self _;
      site = site_keeps_more _ _ _ c.in_ok-domain_map.ensures.site.keeps c.in_err-test_map.ensures.site.keeps;
      clock = record { scheduled = refl; schedule = refl };
    })

pub returns-clause-worked : goal.returns-clause-worked
returns-clause-worked g c =
    worked_after (told_by c.args.checked.command) _ c.in_ok-domain_map.domain_map c.in_ok-test_map.test_map c.args.checked.heard _ _
    (g.S.Source.state c.args.outside.now.source.now) (g.S.Source.state c.open_and_run.new.outside.source.now)
    (g.D.Site.state c.args.outside.now.site.now) (g.D.Site.state c.read_named.new.site) (g.D.Site.state c.read_named-2.new.site)
    (g.D.Site.state c.open_and_run.new.outside.site.now) (g.K.Clock.state c.args.outside.now.clock.now)
    (g.K.Clock.state c.open_and_run.new.outside.clock.now) (g.C.Console.state c.args.outside.now.console.now)
    (g.C.Console.state c.open_and_run.new.outside.console.now) c.in_ok-domain_map.ensures.told
    c.in_ok-domain_map.ensures.site c.in_ok-test_map.ensures.told c.in_ok-test_map.ensures.site
    c.open_and_run.ensures.opened

pub returns-clause-leaves : goal.returns-clause-leaves
returns-clause-leaves g c = record {
  cause = causes_after _ (g.S.Source.state c.args.outside.now.source.now)
      (g.S.Source.state c.args.outside.now.source.now) (g.S.Source.state c.open_and_run.new.outside.source.now)
      (g.D.Site.state c.args.outside.now.site.now) (g.D.Site.state c.read_named-2.new.site)
      (g.D.Site.state c.open_and_run.new.outside.site.now) refl refl
      (c.in_ok-test_map.ensures.kept ∙ c.in_ok-domain_map.ensures.kept) c.open_and_run.ensures.leaves.cause;
  draft = c.open_and_run.ensures.leaves.draft;
  source = c.open_and_run.ensures.leaves.source;
  site = site_keeps_more _ _ _ c.in_ok-domain_map.ensures.site.keeps
      (site_keeps_more _ _ _ c.in_ok-test_map.ensures.site.keeps c.open_and_run.ensures.leaves.site);
  clock = c.open_and_run.ensures.leaves.clock;
}
