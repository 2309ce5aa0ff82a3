-- By what the record at sector 0 says.
use Rattle.std.proofs.Common.{sym, ◌∙◌, arith}
use Rattle.std.proofs.lemmas.Result.{err_from_is_err_and}
use Rattle.faulty_source.proofs.Keeping.{stays_more}
use Rattle.partition_domain.proofs.FindLemmas.{first_found, first_led, first_stopped, first_unextended, first_unused}
use Rattle.partition_domain.proofs.find.find_partition.Goals as goal

pub returns-in_err-main-clause-searches : goal.returns-in_err-main-clause-searches
returns-in_err-main-clause-searches g c =
    let p = err_from_is_err_and c.from_residual.result c.from_residual.ensures.1 in
    rw (p.1, p.2) (first_stopped c.args.k c.in_err-main.field-0.0 _ _ c.in_err-main.ensures.read)

pub returns-in-Some-clause-searches : goal.returns-in-Some-clause-searches
returns-in-Some-clause-searches g c =
    first_found c.args.k c.in_ok-main.main _ _ c.in_ok-main.ensures.read (sym c.is_protected.ensures ∙ c.if-is_protected.false)
    c.in-Some.partition c.requires.counted c.if-k-le-PRIMARIES.true (sym c.in-Some.ensures.is)

pub returns-in-None-clause-searches : goal.returns-in-None-clause-searches
returns-in-None-clause-searches g c =
    first_unused c.args.k c.in_ok-main.main _ _ c.in_ok-main.ensures.read (sym c.is_protected.ensures ∙ c.if-is_protected.false)
    c.requires.counted c.if-k-le-PRIMARIES.true (sym c.in-None.ensures.is)

pub returns-in-Some-find_extended-clause-searches : goal.returns-in-Some-find_extended-clause-searches
returns-in-Some-find_extended-clause-searches g c =
    first_led c.args.k c.in_ok-main.main _ _ c.in_ok-main.ensures.read (sym c.is_protected.ensures ∙ c.if-is_protected.false)
    c.in-Some-find_extended.entry _ c.follow_chain.result (sym c.in-Some-find_extended.ensures)
    c.in_ok-main.ensures.stays c.follow_chain.ensures.searches

pub returns-in-Some-find_extended-clause-stays : goal.returns-in-Some-find_extended-clause-stays
returns-in-Some-find_extended-clause-stays g c =
    stays_more _ _ _ c.in_ok-main.ensures.stays c.follow_chain.ensures.stays

pub returns-in-None-find_extended-clause-searches : goal.returns-in-None-find_extended-clause-searches
returns-in-None-find_extended-clause-searches g c =
    first_unextended c.args.k c.in_ok-main.main _ _ c.in_ok-main.ensures.read
    (sym c.is_protected.ensures ∙ c.if-is_protected.false) (omega (arith, c.if-k-le-PRIMARIES.false))
    (sym c.in-None-find_extended.ensures)
