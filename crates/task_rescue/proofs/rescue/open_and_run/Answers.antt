-- What was done after the maps that options name, by where it ended.
use Rattle.std.proofs.Common.{refl, sym, ◌∙◌}
use Rattle.std.proofs.lemmas.Result.{err_from_is_err_and}
use Rattle.faulty_source.proofs.Keeping.{keeps_more}
use Rattle.mapfile_save.proofs.FillLemmas.{keeps_more as site_keeps_more}
use Rattle.ddrescue_words.specs.Asking.{told_by}
use Rattle.task_files.proofs.CauseLemmas.{causes_after, load_causes, load_leaves, output_causes, output_leaves}
use Rattle.task_files.proofs.OpenedLemmas.{not_opened, input_fails, output_fails, load_fails, place_fails, run_goes}
use Rattle.task_rescue.proofs.rescue.open_and_run.Goals as goal

pub returns-in_default-clause-opened : goal.returns-in_default-clause-opened
returns-in_default-clause-opened g c = input_fails _ _ _ _ _ _ _ _ _ _ c.open_input.ensures.call.journal
    (not_opened _ c.open_input.result _ _ c.in_default.not-Ok c.open_input.ensures.call c.open_input.ensures.schedule)

pub returns-in_err-open_output-clause-opened : goal.returns-in_err-open_output-clause-opened
returns-in_err-open_output-clause-opened g c =
    let p = err_from_is_err_and c.from_residual.result c.from_residual.ensures.1 in
    rw (p.1, p.2) (output_fails (told_by c.args.checked.command) _ _ _ c.args.checked.heard c.in-Ok.end _ _ _ _ _ _ _ (record {
      opened = (c.open_input.ensures.call.opens, c.in-Ok.ensures.call.named);
      same = c.open_input.ensures.call.journal;
      bytes = c.open_input.ensures.call.keeps.bytes;
      tells = c.open_input.ensures.call.keeps.tells;
      all = c.in-Ok.ensures.call.all;
      short = c.in-Ok.ensures.short;
    }) c.in_err-open_output.ensures.opens)

pub returns-in_err-map-clause-opened : goal.returns-in_err-map-clause-opened
returns-in_err-map-clause-opened g c =
    let p = err_from_is_err_and c.from_residual-in_err-map.result c.from_residual-in_err-map.ensures.1 in
    rw (p.1, p.2) (load_fails (told_by c.args.checked.command) _ _ _ c.args.checked.heard c.args.checked.names c.in-Ok.end _ _ _
    (g.D.Site.state c.args.outside.now.site.now) (g.D.Site.state c.open_output.new.site) (g.D.Site.state c.load.new.site) _ _ (record {
      opened = (c.open_input.ensures.call.opens, c.in-Ok.ensures.call.named);
      same = c.open_input.ensures.call.journal;
      bytes = c.open_input.ensures.call.keeps.bytes;
      tells = c.open_input.ensures.call.keeps.tells;
      all = c.in-Ok.ensures.call.all;
      short = c.in-Ok.ensures.short;
    }) (record {
      names = c.requires.checked.names;
      apart = c.requires.checked.apart;
      output = c.in_ok-open_output.ensures.opens;
      keeps = c.open_output.ensures.keeps;
      loads = c.in_err-map.ensures.loaded;
    }))

pub returns-in_err-open_output-clause-leaves : goal.returns-in_err-open_output-clause-leaves
returns-in_err-open_output-clause-leaves g c =
    let p = err_from_is_err_and c.from_residual.result c.from_residual.ensures.1 in
    rw (p.1, p.2) (record {
      cause = causes_after _ (g.S.Source.state c.args.outside.now.source.now) (g.S.Source.state c.open_input.new.self)
          (g.S.Source.state c.open_input.new.self) (g.D.Site.state c.args.outside.now.site.now)
          (g.D.Site.state c.args.outside.now.site.now) (g.D.Site.state c.open_output.new.site)
          c.in-Ok.ensures.call.kept c.open_input.ensures.call.losses refl
          (output_causes _ _ _ _ c.in_err-open_output.ensures.cause);
      draft = c.open_output.ensures.draft ∙ c.requires.no_draft
          ∙ sym (output_leaves _ _ _ c.in_err-open_output.ensures.cause);
      source = c.open_input.ensures.call.keeps;
      site = c.open_output.ensures.keeps;
      clock = record { scheduled = refl; schedule = refl };
    })

pub returns-in_err-map-clause-leaves : goal.returns-in_err-map-clause-leaves
returns-in_err-map-clause-leaves g c =
    let p = err_from_is_err_and c.from_residual-in_err-map.result c.from_residual-in_err-map.ensures.1 in
    rw (p.1, p.2) (record {
      cause = causes_after _ (g.S.Source.state c.args.outside.now.source.now) (g.S.Source.state c.open_input.new.self)
          (g.S.Source.state c.open_input.new.self) (g.D.Site.state c.args.outside.now.site.now)
          (g.D.Site.state c.open_output.new.site) (g.D.Site.state c.load.new.site) c.in-Ok.ensures.call.kept
          c.open_input.ensures.call.losses c.in_ok-open_output.ensures.kept
          (load_causes _ _ _ _ c.in_err-map.ensures.cause);
      draft = c.load.ensures.site.draft ∙ c.open_output.ensures.draft ∙ c.requires.no_draft
          ∙ sym (load_leaves _ _ _ c.in_err-map.ensures.cause);
      source = c.open_input.ensures.call.keeps;
      site = site_keeps_more _ _ _ c.open_output.ensures.keeps c.load.ensures.site.keeps;
      clock = record { scheduled = refl; schedule = refl };
    })

pub returns-then-not-places_fit-clause-opened : goal.returns-then-not-places_fit-clause-opened
returns-then-not-places_fit-clause-opened g c =
    place_fails (told_by c.args.checked.command) _ _ _ c.args.checked.heard c.args.checked.names c.in-Ok.end c.in_ok-map.map _ _
    (g.D.Site.state c.args.outside.now.site.now) (g.D.Site.state c.open_output.new.site) (g.D.Site.state c.load.new.site) _ _ (record {
      opened = (c.open_input.ensures.call.opens, c.in-Ok.ensures.call.named);
      same = c.open_input.ensures.call.journal;
      bytes = c.open_input.ensures.call.keeps.bytes;
      tells = c.open_input.ensures.call.keeps.tells;
      all = c.in-Ok.ensures.call.all;
      short = c.in-Ok.ensures.short;
    }) (record {
      names = c.requires.checked.names;
      apart = c.requires.checked.apart;
      output = c.in_ok-open_output.ensures.opens;
      keeps = c.open_output.ensures.keeps;
      loads = c.in_ok-map.ensures.loaded;
    }) (c.if-not-places_fit.ensures.beyond refl)

pub returns-clause-opened : goal.returns-clause-opened
returns-clause-opened g c =
    run_goes (told_by c.args.checked.command) _ _ _ c.args.checked.heard _ c.args.checked.names c.in-Ok.end c.in_ok-map.map _ _
    (g.S.Source.state c.open_input.new.self) _ (g.D.Site.state c.args.outside.now.site.now) (g.D.Site.state c.open_output.new.site)
    (g.D.Site.state c.load.new.site) _ _ _ _ _ (record {
      opened = (c.open_input.ensures.call.opens, c.in-Ok.ensures.call.named);
      same = c.open_input.ensures.call.journal;
      bytes = c.open_input.ensures.call.keeps.bytes;
      tells = c.open_input.ensures.call.keeps.tells;
      all = c.in-Ok.ensures.call.all;
      short = c.in-Ok.ensures.short;
    }) (record {
      names = c.requires.checked.names;
      apart = c.requires.checked.apart;
      output = c.in_ok-open_output.ensures.opens;
      keeps = c.open_output.ensures.keeps;
      loads = c.in_ok-map.ensures.loaded;
    }) (c.load.ensures.site.keeps.tells ∙ c.open_output.ensures.keeps.tells) (c.if-not-places_fit.ensures.fit refl)
    c.run_tested.ensures.source c.run_tested.ensures.ran

pub returns-clause-leaves : goal.returns-clause-leaves
returns-clause-leaves g c = record {
  cause = causes_after _ (g.S.Source.state c.args.outside.now.source.now) (g.S.Source.state c.open_input.new.self)
      (g.S.Source.state c.run_tested.new.outside.source.now) (g.D.Site.state c.args.outside.now.site.now)
      (g.D.Site.state c.load.new.site) (g.D.Site.state c.run_tested.new.outside.site.now) c.in-Ok.ensures.call.kept
      c.open_input.ensures.call.losses (c.in_ok-map.ensures.kept ∙ c.in_ok-open_output.ensures.kept)
      c.run_tested.ensures.leaves.cause;
  draft = c.run_tested.ensures.leaves.draft;
  source = keeps_more (g.S.Source.state c.args.outside.now.source.now) (g.S.Source.state c.open_input.new.self)
      (g.S.Source.state c.run_tested.new.outside.source.now) c.open_input.ensures.call.keeps
      c.run_tested.ensures.source.keeps;
  site = site_keeps_more _ _ _ (site_keeps_more _ _ _ c.open_output.ensures.keeps c.load.ensures.site.keeps)
      c.run_tested.ensures.leaves.site;
  clock = c.run_tested.ensures.leaves.clock;
}
