-- What was done after the names, by where it ended.
use Rattle.std.proofs.lemmas.Result.{err_from_is_err_and}
use Rattle.faulty_source.proofs.Keeping.{keeps_more}
use Rattle.ddrescueverify_words.specs.Command.{told_by}
use Rattle.ddrescueverify_cli.proofs.OpenedLemmas.{compare_fails, compare_saves, input_fails, load_fails, not_opened, output_fails}
use Rattle.ddrescueverify_cli.proofs.verify.verify.Goals as goal

pub returns-in_default-clause-went : goal.returns-in_default-clause-went
returns-in_default-clause-went g c = input_fails _ _ _ _ _ c.open_input.ensures.call.journal
    (not_opened _ c.open_input.result _ _ c.in_default.not-Ok c.open_input.ensures.call c.open_input.ensures.schedule)

pub returns-in_err-open_output-clause-went : goal.returns-in_err-open_output-clause-went
returns-in_err-open_output-clause-went g c =
    let p = err_from_is_err_and c.from_residual.result c.from_residual.ensures.1 in
    rw (p.1, p.2) (output_fails (told_by c.args.checked.now.command) _ c.in-Ok.end _ _ _ _ _ (record {
      opened = (c.open_input.ensures.call.opens, c.in-Ok.ensures.call.named);
      same = c.open_input.ensures.call.journal;
      keeps = c.open_input.ensures.call.keeps;
      all = c.in-Ok.ensures.call.all;
    })
    c.in_err-open_output.ensures.opens)

pub returns-in_err-loaded-clause-went : goal.returns-in_err-loaded-clause-went
returns-in_err-loaded-clause-went g c =
    let p = err_from_is_err_and c.from_residual-in_err-loaded.result c.from_residual-in_err-loaded.ensures.1 in
    rw (p.1, p.2) (load_fails (told_by c.args.checked.now.command) _ c.args.checked.now.names c.in-Ok.end _ _ _
    (g.D.Site.state c.args.site.now) (g.D.Site.state c.open_output.new.site)
    (g.D.Site.state c.load.new.site) (record {
      opened = (c.open_input.ensures.call.opens, c.in-Ok.ensures.call.named);
      same = c.open_input.ensures.call.journal;
      keeps = c.open_input.ensures.call.keeps;
      all = c.in-Ok.ensures.call.all;
    })
    (record {
      names = c.requires.checked.names;
      output = c.in_ok-open_output.ensures.opens;
      keeps = c.open_output.ensures.keeps;
      loads = c.in_err-loaded.ensures.loaded;
    }))

pub returns-in_err-tally-clause-went : goal.returns-in_err-tally-clause-went
returns-in_err-tally-clause-went g c =
    let p = err_from_is_err_and c.from_residual-in_err-tally.result c.from_residual-in_err-tally.ensures.1 in
    rw (p.1, p.2) (compare_fails (told_by c.args.checked.now.command) _ c.args.checked.now.names c.in-Ok.end c.in_ok-loaded.loaded _ _
    _ _ _
    (g.D.Site.state c.args.site.now) (g.D.Site.state c.open_output.new.site)
    (g.D.Site.state c.load.new.site) _ (record {
      opened = (c.open_input.ensures.call.opens, c.in-Ok.ensures.call.named);
      same = c.open_input.ensures.call.journal;
      keeps = c.open_input.ensures.call.keeps;
      all = c.in-Ok.ensures.call.all;
    })
    (record {
      names = c.requires.checked.names;
      output = c.in_ok-open_output.ensures.opens;
      keeps = c.open_output.ensures.keeps;
      loads = c.in_ok-loaded.ensures.loaded;
    }) c.load.ensures.site.keeps c.compare_loaded.ensures.source c.in_err-tally.ensures.stops)

pub returns-in_err-save_map-clause-went : goal.returns-in_err-save_map-clause-went
returns-in_err-save_map-clause-went g c =
    let p = err_from_is_err_and c.from_residual-in_err-save_map.result c.from_residual-in_err-save_map.ensures.1 in
    rw (p.1, p.2) (compare_saves (told_by c.args.checked.now.command) _ c.args.checked.now.names c.args.checked.now.heading c.in-Ok.end
    c.in_ok-loaded.loaded _ c.in_ok-tally.tally _ _ _ _
    (g.D.Site.state c.args.site.now) (g.D.Site.state c.open_output.new.site)
    (g.D.Site.state c.load.new.site) _ _ (record {
      opened = (c.open_input.ensures.call.opens, c.in-Ok.ensures.call.named);
      same = c.open_input.ensures.call.journal;
      keeps = c.open_input.ensures.call.keeps;
      all = c.in-Ok.ensures.call.all;
    })
    (record {
      names = c.requires.checked.names;
      output = c.in_ok-open_output.ensures.opens;
      keeps = c.open_output.ensures.keeps;
      loads = c.in_ok-loaded.ensures.loaded;
    }) c.load.ensures.site.keeps c.compare_loaded.ensures.source c.compare_loaded.ensures.site
    c.in_ok-tally.ensures.placed c.requires.checked.heading c.in_ok-tally.ensures.compares
    (rw c.compare_loaded.ensures.state at c.in_err-save_map.ensures.saves))

pub returns-clause-went : goal.returns-clause-went
returns-clause-went g c =
    compare_saves (told_by c.args.checked.now.command) _ c.args.checked.now.names c.args.checked.now.heading c.in-Ok.end
    c.in_ok-loaded.loaded _ c.in_ok-tally.tally _ _ _ _
    (g.D.Site.state c.args.site.now) (g.D.Site.state c.open_output.new.site)
    (g.D.Site.state c.load.new.site) _ _ (record {
      opened = (c.open_input.ensures.call.opens, c.in-Ok.ensures.call.named);
      same = c.open_input.ensures.call.journal;
      keeps = c.open_input.ensures.call.keeps;
      all = c.in-Ok.ensures.call.all;
    })
    (record {
      names = c.requires.checked.names;
      output = c.in_ok-open_output.ensures.opens;
      keeps = c.open_output.ensures.keeps;
      loads = c.in_ok-loaded.ensures.loaded;
    }) c.load.ensures.site.keeps c.compare_loaded.ensures.source c.compare_loaded.ensures.site
    c.in_ok-tally.ensures.placed c.requires.checked.heading c.in_ok-tally.ensures.compares
    (rw c.compare_loaded.ensures.state at c.in_ok-save_map.ensures.saves)

pub returns-in_err-tally-clause-source : goal.returns-in_err-tally-clause-source
returns-in_err-tally-clause-source g c =
    keeps_more _ _ _ c.open_input.ensures.call.keeps c.compare_loaded.ensures.source.keeps

pub returns-in_err-save_map-clause-source : goal.returns-in_err-save_map-clause-source
returns-in_err-save_map-clause-source g c =
    keeps_more _ _ _ c.open_input.ensures.call.keeps c.compare_loaded.ensures.source.keeps

pub returns-clause-source : goal.returns-clause-source
returns-clause-source g c =
    keeps_more _ _ _ c.open_input.ensures.call.keeps c.compare_loaded.ensures.source.keeps
