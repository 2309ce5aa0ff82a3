use Rattle.std.proofs.Common.{arith}
use Rattle.std.proofs.lemmas.Result.{err_from_is_err_and}
use Rattle.folder_site.proofs.Pieces.{more_written, part_written, part_left}
use Rattle.folder_site.proofs.folder.pieces.write_whole.Goals as goal

pub returns-in_err-rest-clause-err : goal.returns-in_err-rest-clause-err
returns-in_err-rest-clause-err g c =
    let q = err_from_is_err_and c.from_residual.result c.from_residual.ensures.1 in
    let le = c.loop.invariant.0 in
    rw q.1
    (part_written _ _ _ c.loop.rest.now _ _ (g.K.Kernel.told c.loop.kernel) _ (omega (arith, le)) c.loop.invariant.1
    c.in_err-rest.ensures.err)

pub loop-preserved : goal.loop-preserved
loop-preserved g c =
    let le = c.loop.invariant.0 in
    let within = c.in_ok-rest.ensures.within in (
      omega (arith, le, within),
      more_written _ _ _ c.loop.rest.now _ _ _ (g.K.Kernel.told c.loop.kernel) _ (omega (arith, le)) c.loop.invariant.1
          c.in_ok-rest.ensures.ok,
    )

pub returns-clause-err : goal.returns-clause-err
returns-clause-err g c =
    part_left (g.K.Kernel.number c.args.file.now) c.args.pos c.args.piece.now c.loop.rest.now (g.K.Kernel.told c.args.kernel.now)
    (g.K.Kernel.told c.loop.kernel) c.loop.invariant.1
