use Rattle.std.proofs.Common.{None, refl, sym, ◌∙◌}
use Rattle.std.proofs.lemmas.Result.{err_from_is_err_and}
use Rattle.faulty_source.proofs.Keeping.{keeps_self, keeps_more}
use Rattle.mapfile_save.proofs.FillLemmas.{keeps_more as site_keeps_more}
use Rattle.ddrescue_words.specs.Asking.{told_by}
use Rattle.task_files.specs.declared.ending.Which.TheVariants.{DomainMap}
use Rattle.task_files.proofs.CauseLemmas.{causes_after, load_causes, load_leaves, map_causes, map_drafts, output_causes, output_leaves}
use Rattle.task_files.proofs.OpenedLemmas.{not_opened}
use Rattle.task_sweeps.proofs.PatternLemmas.{pattern_causes, pattern_leaves}
use Rattle.task_sweeps.proofs.FilledLemmas.{takes_as, takes_into, fill_unread, fill_unopened, fill_unpatterned, fill_output, fill_load, fill_unplaced, fill_goes}
use Rattle.task_sweeps.proofs.fill.fill.Goals as goal

pub returns-in_err-domain_map-clause-worked : goal.returns-in_err-domain_map-clause-worked
returns-in_err-domain_map-clause-worked g c =
    let p = err_from_is_err_and c.from_residual.result c.from_residual.ensures.1 in
    rw (p.1, p.2) (fill_unread c.args.types (told_by c.args.checked.command) _ c.args.checked.heard c.requires.checked.different _
    (g.S.Source.state c.args.outside.now.source.now) (g.D.Site.state c.args.outside.now.site.now) (g.D.Site.state c.read_named.new.site)
    (g.K.Clock.state c.args.outside.now.clock.now)
    (g.C.Console.state c.args.outside.now.console.now) c.in_err-domain_map.ensures.told)

pub returns-in_default-clause-worked : goal.returns-in_default-clause-worked
returns-in_default-clause-worked g c =
    fill_unopened c.args.types (told_by c.args.checked.command) _ c.args.checked.heard c.requires.checked.different
    c.in_ok-domain_map.domain_map (g.S.Source.state c.args.outside.now.source.now) (g.D.Site.state c.args.outside.now.site.now)
    (g.D.Site.state c.read_named.new.site) c.in_ok-domain_map.ensures.told c.in_ok-domain_map.ensures.site
    (g.S.Source.state c.open_input.new.self) (g.K.Clock.state c.args.outside.now.clock.now)
    (g.C.Console.state c.args.outside.now.console.now) c.open_input.ensures.call.journal
    (not_opened _ c.open_input.result _ _ c.in_default.not-Ok c.open_input.ensures.call c.open_input.ensures.schedule)

pub returns-in_err-buffer-clause-worked : goal.returns-in_err-buffer-clause-worked
returns-in_err-buffer-clause-worked g c =
    let p = err_from_is_err_and c.from_residual-in_err-buffer.result c.from_residual-in_err-buffer.ensures.1 in
    rw (p.1, p.2) (fill_unpatterned c.args.types (told_by c.args.checked.command) _ c.args.checked.heard c.requires.checked.different
    c.in_ok-domain_map.domain_map (g.S.Source.state c.args.outside.now.source.now) (g.D.Site.state c.args.outside.now.site.now)
    (g.D.Site.state c.read_named.new.site) c.in_ok-domain_map.ensures.told c.in_ok-domain_map.ensures.site
    c.in-Ok.end (g.S.Source.state c.open_input.new.self) (g.S.Source.state c.read_pattern.new.source) (g.K.Clock.state c.args.outside.now.clock.now)
    (g.C.Console.state c.args.outside.now.console.now) (record {
      opened = (c.open_input.ensures.call.opens, c.in-Ok.ensures.call.named);
      same = c.open_input.ensures.call.journal;
      bytes = c.open_input.ensures.call.keeps.bytes;
      tells = c.open_input.ensures.call.keeps.tells;
      all = c.in-Ok.ensures.call.all;
      short = c.in-Ok.ensures.short;
    }) c.read_pattern.ensures.source _
    (takes_as c.cluster-cluster.result _ _ _ _ _ c.cluster-cluster.ensures c.in_err-buffer.ensures.takes))

pub returns-in_err-open_output-clause-worked : goal.returns-in_err-open_output-clause-worked
returns-in_err-open_output-clause-worked g c =
    let p = err_from_is_err_and c.from_residual-in_err-open_output.result c.from_residual-in_err-open_output.ensures.1 in
    rw (p.1, p.2) (fill_output c.args.types (told_by c.args.checked.command) _ c.args.checked.heard c.requires.checked.different
    c.in_ok-domain_map.domain_map (g.S.Source.state c.args.outside.now.source.now) (g.D.Site.state c.args.outside.now.site.now)
    (g.D.Site.state c.read_named.new.site) c.in_ok-domain_map.ensures.told c.in_ok-domain_map.ensures.site
    c.in-Ok.end (g.S.Source.state c.open_input.new.self) (g.S.Source.state c.read_pattern.new.source) (g.K.Clock.state c.args.outside.now.clock.now)
    (g.C.Console.state c.args.outside.now.console.now) (record {
      opened = (c.open_input.ensures.call.opens, c.in-Ok.ensures.call.named);
      same = c.open_input.ensures.call.journal;
      bytes = c.open_input.ensures.call.keeps.bytes;
      tells = c.open_input.ensures.call.keeps.tells;
      all = c.in-Ok.ensures.call.all;
      short = c.in-Ok.ensures.short;
    }) c.read_pattern.ensures.source
    c.in_ok-buffer.buffer.items
    (takes_as c.cluster-cluster.result _ _ _ _ _ c.cluster-cluster.ensures c.in_ok-buffer.ensures.takes)
    _ (g.D.Site.state c.open_output.new.site) c.in_err-open_output.ensures.opens)

pub returns-in_err-map-clause-worked : goal.returns-in_err-map-clause-worked
returns-in_err-map-clause-worked g c =
    let p = err_from_is_err_and c.from_residual-in_err-map.result c.from_residual-in_err-map.ensures.1 in
    rw (p.1, p.2) (fill_load c.args.types (told_by c.args.checked.command) _ c.args.checked.heard c.requires.checked.different
    c.in_ok-domain_map.domain_map (g.S.Source.state c.args.outside.now.source.now) (g.D.Site.state c.args.outside.now.site.now)
    (g.D.Site.state c.read_named.new.site) c.in_ok-domain_map.ensures.told c.in_ok-domain_map.ensures.site
    c.in-Ok.end (g.S.Source.state c.open_input.new.self) (g.S.Source.state c.read_pattern.new.source) (g.K.Clock.state c.args.outside.now.clock.now)
    (g.C.Console.state c.args.outside.now.console.now) (record {
      opened = (c.open_input.ensures.call.opens, c.in-Ok.ensures.call.named);
      same = c.open_input.ensures.call.journal;
      bytes = c.open_input.ensures.call.keeps.bytes;
      tells = c.open_input.ensures.call.keeps.tells;
      all = c.in-Ok.ensures.call.all;
      short = c.in-Ok.ensures.short;
    }) c.read_pattern.ensures.source
    c.in_ok-buffer.buffer.items
    (takes_as c.cluster-cluster.result _ _ _ _ _ c.cluster-cluster.ensures c.in_ok-buffer.ensures.takes)
    c.args.checked.names _ (g.D.Site.state c.open_output.new.site)
    (g.D.Site.state c.load.new.site) (record {
      names = c.requires.checked.names;
      apart = c.requires.checked.apart;
      output = c.in_ok-open_output.ensures.opens;
      keeps = c.open_output.ensures.keeps;
      loads = c.in_err-map.ensures.loaded;
    }))

pub returns-then-not-places_fit-clause-worked : goal.returns-then-not-places_fit-clause-worked
returns-then-not-places_fit-clause-worked g c =
    fill_unplaced c.args.types (told_by c.args.checked.command) _ c.args.checked.heard c.requires.checked.different
    c.in_ok-domain_map.domain_map (g.S.Source.state c.args.outside.now.source.now) (g.D.Site.state c.args.outside.now.site.now)
    (g.D.Site.state c.read_named.new.site) c.in_ok-domain_map.ensures.told c.in_ok-domain_map.ensures.site
    c.in-Ok.end (g.S.Source.state c.open_input.new.self) (g.S.Source.state c.read_pattern.new.source) (g.K.Clock.state c.args.outside.now.clock.now)
    (g.C.Console.state c.args.outside.now.console.now) (record {
      opened = (c.open_input.ensures.call.opens, c.in-Ok.ensures.call.named);
      same = c.open_input.ensures.call.journal;
      bytes = c.open_input.ensures.call.keeps.bytes;
      tells = c.open_input.ensures.call.keeps.tells;
      all = c.in-Ok.ensures.call.all;
      short = c.in-Ok.ensures.short;
    }) c.read_pattern.ensures.source
    c.in_ok-buffer.buffer.items
    (takes_as c.cluster-cluster.result _ _ _ _ _ c.cluster-cluster.ensures c.in_ok-buffer.ensures.takes)
    c.args.checked.names c.in_ok-map.map (g.D.Site.state c.open_output.new.site)
    (g.D.Site.state c.load.new.site) (record {
      names = c.requires.checked.names;
      apart = c.requires.checked.apart;
      output = c.in_ok-open_output.ensures.opens;
      keeps = c.open_output.ensures.keeps;
      loads = c.in_ok-map.ensures.loaded;
    })
    (c.load.ensures.site.keeps.tells ∙ c.open_output.ensures.keeps.tells) c.end-top.result c.end-top.ensures.end
    (c.if-not-places_fit.ensures.beyond refl)

pub returns-clause-worked : goal.returns-clause-worked
returns-clause-worked g c =
    fill_goes c.args.types (told_by c.args.checked.command) _ c.args.checked.heard c.requires.checked.different
    c.in_ok-domain_map.domain_map (g.S.Source.state c.args.outside.now.source.now) (g.D.Site.state c.args.outside.now.site.now)
    (g.D.Site.state c.read_named.new.site) c.in_ok-domain_map.ensures.told c.in_ok-domain_map.ensures.site
    c.in-Ok.end (g.S.Source.state c.open_input.new.self) (g.S.Source.state c.read_pattern.new.source) (g.K.Clock.state c.args.outside.now.clock.now)
    (g.C.Console.state c.args.outside.now.console.now) (record {
      opened = (c.open_input.ensures.call.opens, c.in-Ok.ensures.call.named);
      same = c.open_input.ensures.call.journal;
      bytes = c.open_input.ensures.call.keeps.bytes;
      tells = c.open_input.ensures.call.keeps.tells;
      all = c.in-Ok.ensures.call.all;
      short = c.in-Ok.ensures.short;
    }) c.read_pattern.ensures.source
    c.deref.result.now
    (takes_into _ _ _ _ _ _ c.deref.ensures.value
    (takes_as c.cluster-cluster.result _ _ _ _ _ c.cluster-cluster.ensures c.in_ok-buffer.ensures.takes))
    c.args.checked.names c.in_ok-map.map (g.D.Site.state c.open_output.new.site) (g.D.Site.state c.load.new.site) (record {
      names = c.requires.checked.names;
      apart = c.requires.checked.apart;
      output = c.in_ok-open_output.ensures.opens;
      keeps = c.open_output.ensures.keeps;
      loads = c.in_ok-map.ensures.loaded;
    })
    (c.load.ensures.site.keeps.tells ∙ c.open_output.ensures.keeps.tells) c.end-top.result c.end-top.ensures.end
    c.run.result.heard c.run.result.ending
    (g.S.Source.state c.run.new.outside.source.now) (g.D.Site.state c.run.new.outside.site.now)
    (g.K.Clock.state c.run.new.outside.clock.now) (g.C.Console.state c.run.new.outside.console.now)
    (c.if-not-places_fit.ensures.fit refl) (c.run.ensures.ran None)

pub returns-in_err-domain_map-clause-leaves : goal.returns-in_err-domain_map-clause-leaves
returns-in_err-domain_map-clause-leaves g c =
    let p = err_from_is_err_and c.from_residual.result c.from_residual.ensures.1 in
    rw (p.1, p.2) (record {
      cause = map_causes DomainMap _ (g.S.Source.state c.args.outside.now.source.now) (g.D.Site.state
          c.args.outside.now.site.now) (g.D.Site.state c.read_named.new.site) (λ is. cc)
          c.in_err-domain_map.ensures.cause;
      draft = c.in_err-domain_map.ensures.site.draft ∙ c.requires.no_draft ∙ sym (map_drafts DomainMap _ _ _
          c.in_err-domain_map.ensures.cause);
      source = keeps_self _;
      site = c.in_err-domain_map.ensures.site.keeps;
      clock = record { scheduled = refl; schedule = refl };
    })

pub returns-in_err-buffer-clause-leaves : goal.returns-in_err-buffer-clause-leaves
returns-in_err-buffer-clause-leaves g c =
    let p = err_from_is_err_and c.from_residual-in_err-buffer.result c.from_residual-in_err-buffer.ensures.1 in
    rw (p.1, p.2) (record {
      cause = causes_after _ (g.S.Source.state c.args.outside.now.source.now) (g.S.Source.state c.open_input.new.self)
          (g.S.Source.state c.read_pattern.new.source) (g.D.Site.state c.args.outside.now.site.now) (g.D.Site.state
          c.read_named.new.site) (g.D.Site.state c.read_named.new.site) c.in-Ok.ensures.call.kept
          c.open_input.ensures.call.losses c.in_ok-domain_map.ensures.kept (pattern_causes _ _ _ _ _ _ _ _
          c.in_err-buffer.ensures.takes.comes c.in_err-buffer.ensures.cause);
      draft = c.in_ok-domain_map.ensures.site.draft ∙ c.requires.no_draft ∙ sym (pattern_leaves _ _ _ _
          c.in_err-buffer.ensures.takes.comes);
      source = keeps_more (g.S.Source.state c.args.outside.now.source.now) (g.S.Source.state c.open_input.new.self)
          (g.S.Source.state c.read_pattern.new.source) c.open_input.ensures.call.keeps
          c.read_pattern.ensures.source.keeps;
      site = c.in_ok-domain_map.ensures.site.keeps;
      clock = record { scheduled = refl; schedule = refl };
    })

pub returns-in_err-open_output-clause-leaves : goal.returns-in_err-open_output-clause-leaves
returns-in_err-open_output-clause-leaves g c =
    let p = err_from_is_err_and c.from_residual-in_err-open_output.result c.from_residual-in_err-open_output.ensures.1 in
    rw (p.1, p.2) (record {
      cause = causes_after _ (g.S.Source.state c.args.outside.now.source.now) (g.S.Source.state
          c.read_pattern.new.source) (g.S.Source.state c.read_pattern.new.source) (g.D.Site.state
          c.args.outside.now.site.now) (g.D.Site.state c.read_named.new.site) (g.D.Site.state c.open_output.new.site)
          (c.read_pattern.ensures.source.faults ∙ c.in-Ok.ensures.call.kept) (c.in_ok-buffer.ensures.cause.losses ∙
          c.open_input.ensures.call.losses) c.in_ok-domain_map.ensures.kept (output_causes _ _ _ _
          c.in_err-open_output.ensures.cause);
      draft = c.open_output.ensures.draft ∙ c.in_ok-domain_map.ensures.site.draft ∙ c.requires.no_draft ∙ sym
          (output_leaves _ _ _ c.in_err-open_output.ensures.cause);
      source = keeps_more (g.S.Source.state c.args.outside.now.source.now) (g.S.Source.state c.open_input.new.self)
          (g.S.Source.state c.read_pattern.new.source) c.open_input.ensures.call.keeps
          c.read_pattern.ensures.source.keeps;
      site = site_keeps_more _ _ _ c.in_ok-domain_map.ensures.site.keeps c.open_output.ensures.keeps;
      clock = record { scheduled = refl; schedule = refl };
    })

pub returns-in_err-map-clause-leaves : goal.returns-in_err-map-clause-leaves
returns-in_err-map-clause-leaves g c =
    let p = err_from_is_err_and c.from_residual-in_err-map.result c.from_residual-in_err-map.ensures.1 in
    rw (p.1, p.2) (record {
      cause = causes_after _ (g.S.Source.state c.args.outside.now.source.now) (g.S.Source.state
          c.read_pattern.new.source) (g.S.Source.state c.read_pattern.new.source) (g.D.Site.state
          c.args.outside.now.site.now) (g.D.Site.state c.open_output.new.site) (g.D.Site.state c.load.new.site)
          (c.read_pattern.ensures.source.faults ∙ c.in-Ok.ensures.call.kept) (c.in_ok-buffer.ensures.cause.losses ∙
          c.open_input.ensures.call.losses) (c.in_ok-open_output.ensures.kept ∙ c.in_ok-domain_map.ensures.kept)
          (load_causes _ _ _ _ c.in_err-map.ensures.cause);
      draft = c.load.ensures.site.draft ∙ c.open_output.ensures.draft ∙ c.read_named.ensures.site.draft ∙
          c.requires.no_draft ∙ sym (load_leaves _ _ _ c.in_err-map.ensures.cause);
      source = keeps_more (g.S.Source.state c.args.outside.now.source.now) (g.S.Source.state c.open_input.new.self)
          (g.S.Source.state c.read_pattern.new.source) c.open_input.ensures.call.keeps
          c.read_pattern.ensures.source.keeps;
      site = site_keeps_more _ _ _ c.in_ok-domain_map.ensures.site.keeps (site_keeps_more _ _ _
          c.open_output.ensures.keeps c.load.ensures.site.keeps);
      clock = record { scheduled = refl; schedule = refl };
    })

pub returns-then-not-places_fit-clause-leaves : goal.returns-then-not-places_fit-clause-leaves
returns-then-not-places_fit-clause-leaves g c = record {
  cause = record {
    opens = c.read_pattern.ensures.source.faults ∙ c.in-Ok.ensures.call.kept;
    reads = c.in_ok-buffer.ensures.cause.losses ∙ c.open_input.ensures.call.losses;
    calls = c.in_ok-map.ensures.kept ∙ c.in_ok-open_output.ensures.kept ∙ c.in_ok-domain_map.ensures.kept;
    also = tt;
  };
  draft = c.load.ensures.site.draft ∙ c.open_output.ensures.draft ∙ c.read_named.ensures.site.draft ∙ c.requires.no_draft;
  source = keeps_more (g.S.Source.state c.args.outside.now.source.now) (g.S.Source.state c.open_input.new.self)
      (g.S.Source.state c.read_pattern.new.source) c.open_input.ensures.call.keeps c.read_pattern.ensures.source.keeps;
  site = site_keeps_more _ _ _ c.in_ok-domain_map.ensures.site.keeps
      (site_keeps_more _ _ _ c.open_output.ensures.keeps c.load.ensures.site.keeps);
  clock = record { scheduled = refl; schedule = refl };
}

pub returns-clause-leaves : goal.returns-clause-leaves
returns-clause-leaves g c = record {
  cause = causes_after _ _ _ _ _ _ _ (c.read_pattern.ensures.source.faults ∙ c.in-Ok.ensures.call.kept)
      (c.in_ok-buffer.ensures.cause.losses ∙ c.open_input.ensures.call.losses)
      (c.in_ok-map.ensures.kept ∙ c.in_ok-open_output.ensures.kept ∙ c.in_ok-domain_map.ensures.kept)
      c.run.ensures.leaves.cause;
  draft = c.run.ensures.leaves.draft;
  source = keeps_more (g.S.Source.state c.args.outside.now.source.now) (g.S.Source.state c.open_input.new.self) _
      c.open_input.ensures.call.keeps
      (keeps_more _ (g.S.Source.state c.read_pattern.new.source) _ c.read_pattern.ensures.source.keeps
      c.run.ensures.leaves.source);
  site = site_keeps_more _ _ _ c.in_ok-domain_map.ensures.site.keeps (site_keeps_more _ _ _ c.open_output.ensures.keeps
      (site_keeps_more _ _ _ c.load.ensures.site.keeps c.run.ensures.leaves.site));
  clock = c.run.ensures.leaves.clock;
}
