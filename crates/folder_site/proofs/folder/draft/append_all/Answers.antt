use Rattle.std.proofs.lemmas.Result.{err_from_is_err_and}
use Rattle.folder_site.proofs.Drafts.{more_appended, part_appended, no_write}
use Rattle.folder_site.proofs.folder.draft.append_all.Goals as goal

pub returns-in_err-rest-clause-err : goal.returns-in_err-rest-clause-err
returns-in_err-rest-clause-err g c =
    let q = err_from_is_err_and c.from_residual.result c.from_residual.ensures.1 in
    rw q.1 (part_appended _ _ c.loop.rest.now _ (g.K.Kernel.told c.loop.kernel) _ c.loop.invariant c.in_err-rest.ensures.err)

pub loop-preserved : goal.loop-preserved
loop-preserved g c =
    more_appended _ _ c.loop.rest.now _ _ (g.K.Kernel.told c.loop.kernel) _ c.loop.invariant c.in_ok-rest.ensures.ok

pub returns-clause-err : goal.returns-clause-err
returns-clause-err g c =
    let end = g.K.Kernel.told c.loop.kernel in
    part_appended _ _ c.loop.rest.now _ end _ c.loop.invariant (no_write (g.K.Kernel.number c.args.file.now) c.args.piece.now end)
