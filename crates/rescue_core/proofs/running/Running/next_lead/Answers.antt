use Rattle.std.proofs.Common.{◌≡◌, ◌+◌, true, subst}
use Rattle.std.proofs.lemmas.Option.{IfSome_then}
use Rattle.rescue_rules.specs.declared.phase.Phase.{Phase}
use Rattle.rescue_rules.specs.Passes.{is_up, numbered}
use Rattle.rescue_core.specs.RunState.{setting_in, run_of}
use Rattle.rescue_core.specs.Requesting.{StandsAt}
use Rattle.rescue_core.proofs.RequestLemmas.{stands}
use Rattle.rescue_core.proofs.WantedLemmas.{lead_is, lead_none, if_none, led_clear}
use Rattle.rescue_core.proofs.running.Running.next_lead.Goals as goal

pub returns-clause-some : goal.returns-clause-some
returns-clause-some g c =
    let r = c.args.self.now in
    let b = run_of g.T.Tiles r in
    let m = b.machine in
    let leads = c.requires.leads in
    let at = subst (λ (p : Phase). StandsAt m p r.progress m.map m.tally.over) leads.phase
    (stands g.T.Tiles r c.requires.run) in
    let up = subst (λ (p : Phase). is_up (setting_in b) (numbered p r.progress.pass) ≡ true) leads.phase leads.up in
    IfSome_then c.request_by.result c.request_by.ensures.some (λ q cut.
    lead_is (setting_in b) m r.progress m.map m.tally.over q.pos (q.pos + q.len) at leads.mode up
    (led_clear b leads.phase leads.up leads.mode c.requires.run.running.led) cut)

pub returns-clause-none : goal.returns-clause-none
returns-clause-none g c =
    let r = c.args.self.now in
    let b = run_of g.T.Tiles r in
    let m = b.machine in
    let leads = c.requires.leads in
    let at = subst (λ (p : Phase). StandsAt m p r.progress m.map m.tally.over) leads.phase
    (stands g.T.Tiles r c.requires.run) in
    let up = subst (λ (p : Phase). is_up (setting_in b) (numbered p r.progress.pass) ≡ true) leads.phase leads.up in
    if_none c.request_by.result
    (λ none.
    lead_none (setting_in b) m r.progress m.map m.tally.over at leads.mode up
    (led_clear b leads.phase leads.up leads.mode c.requires.run.running.led) none)
    c.request_by.ensures.none
