-- A turn after its marks: what is said and saved then.
use Rattle.std.proofs.Common.{◌≡◌, Bool, true, if◌then◌else◌, List, [], ◌∷◌, Some, None, is_some, refl, sym, ap, subst, ◌∙◌}
use Rattle.crash_site.specs.declared.site.SiteCall.{SiteCall}
use Rattle.crash_site.specs.Calls.{Call}
use Rattle.crash_site.specs.SiteState.{SiteState}
use Rattle.crash_site.specs.SiteChanges.{Keeps, Makes, Breaks}
use Rattle.mapfile_save.specs.Saving.{save_calls, IsNameIn}
use Rattle.rescue_console.specs.ConsoleState.{ConsoleState}
use Rattle.rescue_console.specs.Speaking.{SpeaksOn, out_pieces}
use Rattle.transfer_token.specs.declared.token.Request.{Request}
use Rattle.mapfile_save.specs.MapNames.{names_in}
use Rattle.rescue_rules.specs.declared.stop.Limit.{Limit}
use Rattle.rescue_rules.specs.declared.stop.Stop.TheVariants.{Site, LimitMet}
use Rattle.rescue_rules.specs.Step.{Event, is_timely, limit_met}
use Rattle.rescue_rules.specs.Snapshots.{text_of, snapshot_of}
use Rattle.rescue_rules.specs.RunCalls.{write_calls}
use Rattle.rescue_rules.specs.Lines.{phase_front, report_of, report_text}
use Rattle.rescue_core.specs.declared.turn.Advanced.{Advanced}
use Rattle.rescue_rules.specs.Across.{Across}
use Rattle.rescue_core.specs.RunState.{RunState, setting_in}
use Rattle.rescue_core.specs.Turning.{stepped, move_pieces, Turned, Halted, Limited, Unsaved}
use Rattle.rescue_core.specs.TurnParts.{Advances}
use Rattle.rescue_core.proofs.TurnCallLemmas.{save_if, timely_due, save_named, move_makes, timely_breaks, timely_rose}

-- the line of a run, if it is due, is said by one who is heard so far or not
abbrev pub SaysOf : RunState → (due heard heard' : Bool) → (console console' : ConsoleState) → Type 0
SaysOf r due heard heard' console console' =
    SpeaksOn (out_pieces (if due then report_text (phase_front r.machine.tally.shown) (report_of (setting_in r) r.machine) ∷ []
    else [])) heard heard' console console'

-- A turn up to its marks, between these two states, after which the line that is due was said, and the run was heard
-- or not.
pub record Says (request : Request) (got : Advanced) (r r1 r2 : RunState) (o : Across) (site1 : SiteState) : Type 0 where
  pub console1 : ConsoleState
  pub silent : console1 ≡ o.console
  pub advances : Advances request got r r1 (record o { site' = site1; console' = console1 })
  pub keeps : Keeps o.site site1
  pub stands : r2 ≡ record r1 { heard = r2.heard }
  pub says : SaysOf r1 got.speaks r1.heard r2.heard console1 o.console'

says_step : (request : Request) (got : Advanced) (r r1 r2 : RunState) (o : Across) (site1 : SiteState)
    → (w : Says request got r r1 r2 o site1) → r2 ≡ stepped r w.advances.event r2.heard
says_step request got r r1 r2 o site1 w =
    w.stands ∙ ap (λ (q : RunState). record q { heard = r2.heard }) w.advances.goes.steps

says_line : (request : Request) (got : Advanced) (r r1 r2 : RunState) (o : Across) (site1 : SiteState)
    → (w : Says request got r r1 r2 o site1)
    → SpeaksOn (move_pieces r w.advances.event) r.heard r2.heard o.console o.console'
says_line request got r r1 r2 o site1 w =
    let e : Event = w.advances.event in
    subst (λ (due : Bool). SaysOf (stepped r e r.heard) due r.heard r2.heard o.console o.console')
    w.advances.goes.speaks
    (subst (λ (q : RunState). SaysOf q got.speaks q.heard r2.heard o.console o.console') w.advances.goes.steps
    (subst (λ (x : ConsoleState). SaysOf r1 got.speaks r1.heard r2.heard x o.console') w.silent w.says))

-- the save that is due then
save_is : (request : Request) (got : Advanced) (r r1 r2 : RunState) (o : Across) (site1 : SiteState)
    → (w : Says request got r r1 r2 o site1)
    → save_if r2 got.saves ≡ save_if (stepped r w.advances.event r2.heard) (is_timely r.machine w.advances.event)
save_is request got r r1 r2 o site1 w =
    ap (save_if r2) w.advances.goes.saves
    ∙ ap (λ (q : RunState). save_if q (is_timely r.machine w.advances.event)) (says_step request got r r1 r2 o site1 w)

-- With that save it is whole,
pub says_turned : (request : Request) (got : Advanced) (r r1 r2 r3 : RunState) (o : Across) (site1 : SiteState)
    → Says request got r r1 r2 o site1 → limit_met (setting_in r2) r2.machine ≡ None → r3 ≡ r2
    → Makes (save_if r2 got.saves) site1 o.site' → Turned request got.turn r r3 o
says_turned request got r r1 r2 r3 o site1 w none is saves =
    let e : Event = w.advances.event in
    let step : r2 ≡ stepped r e r2.heard = says_step request got r r1 r2 o site1 w in
    subst (λ (q : RunState). Turned request got.turn r q o) (sym is) (record {
      event = e;
      is = w.advances.is;
      answers = w.advances.goes.answers;
      steps = step;
      within = ap (λ (q : RunState). limit_met (setting_in q) r2.machine) (sym step) ∙ none;
      calls = move_makes r e r2.heard o.site site1 o.site'
          (ap (λ (q : RunState). limit_met (setting_in q) q.machine) (sym step) ∙ none) w.keeps w.advances.writes
          (subst (λ (cs : List Call). Makes cs site1 o.site') (save_is request got r r1 r2 o site1 w) saves);
      says = says_line request got r r1 r2 o site1 w;
    })

-- where a limit is met, it stops before it,
pub says_limited : (request : Request) (got : Advanced) (r r1 r2 : RunState) (o : Across) (limit : Limit)
    → Says request got r r1 r2 o o.site' → limit_met (setting_in r2) r2.machine ≡ Some limit
    → Halted request (LimitMet limit) r r2 o
says_limited request got r r1 r2 o limit w met =
    let step : r2 ≡ stepped r w.advances.event r2.heard = says_step request got r r1 r2 o o.site' w in
    Limited limit refl w.advances.event w.advances.is step
    (ap (λ (q : RunState). limit_met (setting_in q) r2.machine) (sym step) ∙ met) w.advances.writes
    (says_line request got r r1 r2 o o.site' w)

-- and where a call of the save fails, it stops there.
pub says_unsaved : (request : Request) (got : Advanced) (r r1 r2 r3 : RunState) (o : Across) (site1 : SiteState)
    (call : SiteCall) → Says request got r r1 r2 o site1 → limit_met (setting_in r2) r2.machine ≡ None → r3 ≡ r2
    → IsNameIn call (save_if r2 got.saves) → Breaks call (save_if r2 got.saves) site1 o.site'
    → Halted request (Site call) r r3 o
says_unsaved request got r r1 r2 r3 o site1 call w none is named broke =
    let e : Event = w.advances.event in
    let where_due : (got.saves ≡ true) × (is_some r2.names ≡ true) = save_named r2 got.saves call named in
    let step : r2 ≡ stepped r e r2.heard = says_step request got r r1 r2 o site1 w in
    let within : limit_met (setting_in r) (stepped r e r2.heard).machine ≡ None =
    ap (λ (q : RunState). limit_met (setting_in q) q.machine) (sym step) ∙ none in
    let there : is_some r.names ≡ true = ap (λ (q : RunState). is_some q.names) (sym step) ∙ where_due.1 in
    let timely : is_timely r.machine e ≡ true = sym w.advances.goes.saves ∙ where_due.0 in
    let save : List Call = save_calls (names_in r.names) (text_of r.line (snapshot_of r2.machine)) in
    let all : save_if r2 got.saves ≡ save
    = ap (save_if r2) where_due.0
    ∙ ap (λ (b : Bool). if b then save_calls (names_in r2.names) (text_of r2.line (snapshot_of r2.machine)) else []) where_due.1
    ∙ ap (λ (q : RunState). save_calls (names_in q.names) (text_of q.line (snapshot_of r2.machine))) step in
    subst (λ (q : RunState). Halted request (Site call) r q o) (sym is)
    (Unsaved call refl e w.advances.is step (timely_due r e within there timely)
    (subst (λ (cs : List Call). IsNameIn call cs) all named)
    (timely_breaks call (write_calls (setting_in r) e.reading) save o.site site1 o.site' w.keeps w.advances.writes
    (subst (λ (cs : List Call). Breaks call cs site1 o.site') all broke))
    (timely_rose (write_calls (setting_in r) e.reading) o.site site1 o.site'.faults w.advances.writes broke.rose)
    (says_line request got r r1 r2 o site1 w))
