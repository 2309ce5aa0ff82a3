use Rattle.std.proofs.Common.{◌∙◌, Err, ap}
use Rattle.std.proofs.lemmas.Result.{err_from_is_err_and}
use Rattle.mapfile_text.specs.HeadingLines.{HeadingLines}
use Rattle.mapfile_text.specs.Printed.{printed}
use Rattle.rescue_core.proofs.SaveLemmas.{heading_is, calls_named, saves_too, breaks_too}
use Rattle.rescue_core.proofs.save_now.save_now.Goals as goal

pub returns-clause-call : goal.returns-clause-call
returns-clause-call g c =
    let heading = c.set_times.ensures ∙ heading_is _ c.args.heading.now.line c.args.tally.began c.args.tally.now c.requires.program in
    saves_too _ _ c.in_ok-save.field-0 _ _ _
    (calls_named c.args.names.now c.in-Some.names _ _ c.in-Some.is
    (ap (λ (h : HeadingLines). printed h c.args.tally.shown (g.T.Tiles.statuses c.args.tiles.now)) heading))
    c.in_ok-save.ensures.call

pub returns-in_err-save-clause-call : goal.returns-in_err-save-clause-call
returns-in_err-save-clause-call g c =
    let heading = c.set_times.ensures ∙ heading_is _ c.args.heading.now.line c.args.tally.began c.args.tally.now c.requires.program in
    let q = err_from_is_err_and c.from_residual.result c.from_residual.ensures.1 in
    breaks_too _ _ _ _ _ _
    (calls_named c.args.names.now c.in-Some.names _ _ c.in-Some.is
    (ap (λ (h : HeadingLines). printed h c.args.tally.shown (g.T.Tiles.statuses c.args.tiles.now)) heading))
    (q.1 ∙ ap (λ e. Err e) q.2) c.in_err-save.ensures.call
