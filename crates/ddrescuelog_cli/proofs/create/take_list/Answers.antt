-- The list was lost, or is too long.
use Rattle.std.proofs.Common.{arith}
use Rattle.std.proofs.lemmas.Result.{err_from_is_err_and}
use Rattle.ddrescuelog_cli.proofs.TakeLemmas.{taken_more, taking_stopped, too_long}
use Rattle.ddrescuelog_cli.proofs.create.take_list.Goals as goal

pub returns-in_err-take_piece-clause-stopped : goal.returns-in_err-take_piece-clause-stopped
returns-in_err-take_piece-clause-stopped g c =
    let p = err_from_is_err_and c.from_residual.result c.from_residual.ensures.1 in
    rw (p.1, p.2)
    (taking_stopped c.in_err-take_piece.field-0.0 _ _ _ _ c.pieces.invariant.taken c.in_err-take_piece.ensures.cause
    c.in_err-take_piece.ensures.feed)

pub returns-then-len-gt-LIST_LIMIT-clause-stopped : goal.returns-then-len-gt-LIST_LIMIT-clause-stopped
returns-then-len-gt-LIST_LIMIT-clause-stopped g c =
    too_long c.take_piece.new.list.items _ _
    (taken_more _ _ _ _ _ _ c.pieces.invariant.taken c.in_ok-take_piece.ensures.took) (omega arith)
