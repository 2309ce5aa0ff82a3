use Rattle.std.proofs.Common.{refl}
use Rattle.std.proofs.lemmas.Result.{err_from_is_err_and}
use Rattle.faulty_source.proofs.Keeping.{stays_self}
use Rattle.rescue_verify.proofs.compare.compare_piece.Goals as goal

pub returns-in_err-reserve-clause-source : goal.returns-in_err-reserve-clause-source
returns-in_err-reserve-clause-source g c = stays_self _

pub returns-in_err-reserve-clause-halts : goal.returns-in_err-reserve-clause-halts
returns-in_err-reserve-clause-halts g c =
    let p = err_from_is_err_and c.from_residual.result c.from_residual.ensures.1 in
    rw (p.1, p.2) (refl, refl)
