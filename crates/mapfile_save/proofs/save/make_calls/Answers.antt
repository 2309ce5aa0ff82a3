-- The parts of a save are its calls.
use Rattle.std.proofs.lemmas.Result.{err_from_is_err_and}
use Rattle.mapfile_text.specs.Printed.{printed}
use Rattle.mapfile_save.proofs.SaveLemmas.{breaks_in_fill, breaks_in_firm, saved_or_broke}
use Rattle.mapfile_save.proofs.save.make_calls.Goals as goal

pub returns-in_err-filled : goal.returns-in_err-filled
returns-in_err-filled g c =
    let q = err_from_is_err_and c.from_residual-in_err-filled.result c.from_residual-in_err-filled.ensures.1 in
    rw (q.1, q.2) (breaks_in_fill _ (printed c.args.heading.now c.args.state (g.T.Tiles.statuses c.args.tiles.now)) _ _ _ _ _
    c.in_ok-begun.ensures.call c.in_err-filled.ensures.call)

pub returns-in_err-firm : goal.returns-in_err-firm
returns-in_err-firm g c =
    let q = err_from_is_err_and c.from_residual-in_err-firm.result c.from_residual-in_err-firm.ensures.1 in
    rw (q.1, q.2) (breaks_in_firm _ (printed c.args.heading.now c.args.state (g.T.Tiles.statuses c.args.tiles.now)) _ _ _ _ _ _ _
    c.in_ok-begun.ensures.call c.in_ok-filled.ensures.call c.in_err-firm.ensures.call)

pub returns : goal.returns
returns g c =
    saved_or_broke _ (printed c.args.heading.now c.args.state (g.T.Tiles.statuses c.args.tiles.now)) _ _ _ _ _ _ _ _ _
    c.in_ok-begun.ensures.call c.in_ok-filled.ensures.call c.in_ok-firm.ensures.call c.publish.ensures
