use Rattle.std.proofs.Common.{◌+◌}
use Rattle.std.proofs.lemmas.Option.{IfSome_then}
use Rattle.rescue_core.specs.RunState.{setting_in, run_of}
use Rattle.rescue_core.specs.Requesting.{search_by}
use Rattle.rescue_core.proofs.RequestLemmas.{stands}
use Rattle.rescue_core.proofs.WantedLemmas.{cut_is, no_request, if_none}
use Rattle.rescue_core.proofs.running.Running.find_request.Goals as goal

pub returns-clause-some : goal.returns-clause-some
returns-clause-some g c =
    let r = c.args.self.now in
    let b = run_of g.T.Tiles r in
    IfSome_then c.request_by.result c.request_by.ensures.some (λ q cut.
    cut_is (setting_in b) b.machine r.phase r.progress b.machine.map b.machine.tally.over c.status_of.result
    (search_by c.search-search.result) q.pos (q.pos + q.len) (stands g.T.Tiles r c.requires) c.status_of.ensures
    c.search-search.ensures.is cut)

pub returns-clause-none : goal.returns-clause-none
returns-clause-none g c =
    let r = c.args.self.now in
    let b = run_of g.T.Tiles r in
    if_none c.request_by.result
    (λ none.
    no_request (setting_in b) b.machine r.phase r.progress b.machine.map b.machine.tally.over c.status_of.result
    (search_by c.search-search.result) (stands g.T.Tiles r c.requires) c.status_of.ensures c.search-search.ensures.is
    none)
    c.request_by.ensures.none
