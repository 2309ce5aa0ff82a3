use Rattle.std.proofs.lemmas.Result.{err_from_is_err_and}
use Rattle.rescue_phases.proofs.TurnLemmas.{goes_on}
use Rattle.task_rescue.proofs.PhaseLemmas.{ends_after}
use Rattle.task_rescue.proofs.run.run_phases.Goals as goal

pub returns-in_err-copied-clause-ends : goal.returns-in_err-copied-clause-ends
returns-in_err-copied-clause-ends g c =
    let p = err_from_is_err_and c.from_residual.result c.from_residual.ensures.1 in
    rw (p.1, p.2) c.in_err-copied.ensures.ends

pub returns-in_err-trimmed-clause-ends : goal.returns-in_err-trimmed-clause-ends
returns-in_err-trimmed-clause-ends g c =
    let p = err_from_is_err_and c.from_residual-in_err-trimmed.result c.from_residual-in_err-trimmed.ensures.1 in
    rw (p.1, p.2)
    (ends_after _ _ _ _ _ _ _ _ _ _ _ _ _ _ _ c.in_ok-copied.ensures.ends.goes c.in_err-trimmed.ensures.ends)

pub returns-in_err-scraped-clause-ends : goal.returns-in_err-scraped-clause-ends
returns-in_err-scraped-clause-ends g c =
    let p = err_from_is_err_and c.from_residual-in_err-scraped.result c.from_residual-in_err-scraped.ensures.1 in
    rw (p.1, p.2)
    (ends_after _ _ _ _ _ _ _ _ _ _ _ _ _ _ _
    (goes_on _ _ _ _ _ _ _ _ _ _ _ _ _ _ _ c.in_ok-copied.ensures.ends.goes c.in_ok-trimmed.ensures.ends.goes)
    c.in_err-scraped.ensures.ends)

pub returns-clause-ends : goal.returns-clause-ends
returns-clause-ends g c =
    ends_after _ _ _ _ _ _ _ _ _ _ _ _ _ _ _
    (goes_on _ _ _ _ _ _ _ _ _ _ _ _ _ _ _
    (goes_on _ _ _ _ _ _ _ _ _ _ _ _ _ _ _ c.in_ok-copied.ensures.ends.goes c.in_ok-trimmed.ensures.ends.goes)
    c.in_ok-scraped.ensures.ends.goes)
    c.run_retrying.ensures.ends
