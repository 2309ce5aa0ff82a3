use Rattle.std.proofs.Common.{◌≡◌, refl, sym, ⊎_elim}
use Rattle.rescue_rules.specs.declared.phase.Phase.TheVariants.{Copying, Scraping, Retrying}
use Rattle.rescue_core.specs.RunState.{setting_in, run_of}
use Rattle.rescue_core.proofs.RequestLemmas.{stands, cursor_search, lead_search}
use Rattle.rescue_core.proofs.running.Running.search.Goals as goal

pub returns-in-Copying-clause-is : goal.returns-in-Copying-clause-is
returns-in-Copying-clause-is g c =
    let r = c.args.self.now in
    let b = run_of g.T.Tiles r in
    cursor_search (setting_in b) b.machine r.phase Copying r.progress b.machine.map r.settings.cluster c.is_up-up.result
    (stands g.T.Tiles r c.requires) c.in-Copying.is refl
    (c.is_up-up.ensures r.domain r.keeper.names r.keeper.heading.line r.phase)

pub returns-in-Lead-clause-is : goal.returns-in-Lead-clause-is
returns-in-Lead-clause-is g c =
    let r = c.args.self.now in
    let b = run_of g.T.Tiles r in
    lead_search (setting_in b) b.machine r.phase r.progress b.machine.map c.start_of.result c.is_up-up.result
    (stands g.T.Tiles r c.requires) c.in-Trimming.is c.in-Lead.is
    (c.is_up-up.ensures r.domain r.keeper.names r.keeper.heading.line r.phase)
    (c.start_of.ensures r.domain r.keeper.names r.keeper.heading.line r.phase b.machine.map (sym c.end.ensures.end))

pub returns-in-Scraping-clause-is : goal.returns-in-Scraping-clause-is
returns-in-Scraping-clause-is g c =
    let r = c.args.self.now in
    let b = run_of g.T.Tiles r in
    let up = c.is_up-up.ensures r.domain r.keeper.names r.keeper.heading.line r.phase in
    ⊎_elim
    (λ (is : r.phase ≡ Scraping).
    cursor_search (setting_in b) b.machine r.phase Scraping r.progress b.machine.map r.settings.sector c.is_up-up.result
    (stands g.T.Tiles r c.requires) is refl up)
    (λ (is : r.phase ≡ Retrying).
    cursor_search (setting_in b) b.machine r.phase Retrying r.progress b.machine.map r.settings.sector c.is_up-up.result
    (stands g.T.Tiles r c.requires) is refl up)
    c.in-Scraping.is
