-- The calls that a turn makes on its files.
use Rattle.std.proofs.Common.{◌≡◌, ℕ, Bool, true, false, ◌&&◌, IsTrue, if◌then◌else◌, List, [], ◌++◌, map, Option, Some, None, is_none, is_some, refl, sym, ap, subst, ◌∙◌, append_assoc}
use Rattle.std.proofs.lemmas.List.{map-append}
use Rattle.fault_count.specs.Counts.{Rose, raised}
use Rattle.crash_site.specs.declared.site.SiteCall.{SiteCall}
use Rattle.crash_site.specs.Calls.{Call, Entry, Done}
use Rattle.crash_site.specs.CallsMade.{BrokeAt}
use Rattle.crash_site.specs.SiteState.{SiteState}
use Rattle.crash_site.specs.SiteChanges.{Keeps, Makes, Breaks}
use Rattle.mapfile_save.specs.MapNames.{MapNames, names_in}
use Rattle.mapfile_save.specs.Saving.{save_calls, IsNameIn}
use Rattle.rescue_rules.specs.declared.stop.Limit.{Limit}
use Rattle.rescue_rules.specs.Step.{Event, is_timely, limit_met, step}
use Rattle.rescue_rules.specs.Snapshots.{text_of, snapshot_of, is_due}
use Rattle.rescue_rules.specs.RunCalls.{write_calls, due_calls, move_calls}
use Rattle.rescue_core.specs.RunState.{RunState, setting_in}
use Rattle.rescue_core.specs.Turning.{move_by, stepped}

-- some calls, and then others
makes_both : (xs ys : List Call) (a b c : SiteState) → Keeps a b → Makes xs a b → Makes ys b c → Makes (xs ++ ys) a c
makes_both xs ys a b c keeps x y = record {
  made = λ tells. y.made (subst (λ t. IsTrue t) (sym keeps.tells) tells)
      ∙ ap (λ es. es ++ map Done ys) (x.made tells) ∙ append_assoc a.calls (map Done xs) (map Done ys)
      ∙ ap (λ es. a.calls ++ es) (sym (map-append Done xs ys));
  faults = y.faults ∙ x.faults;
}

-- the save of a run, if it is due and there is a mapfile
abbrev pub save_if : RunState → (due : Bool) → List Call
save_if r due =
    if due then (if is_some r.names then save_calls (names_in r.names) (text_of r.line (snapshot_of r.machine)) else [])
    else []

-- Where no limit is met, with a mapfile a save is due where it is timely.
due_where : (names : Option MapNames) (timely : Bool) (calls : List Call)
    → (if is_some names && timely && true then calls else [])
    ≡ (if timely then (if is_some names then calls else []) else [])
due_where None true calls = refl
due_where None false calls = refl
due_where (Some names) true calls = refl
due_where (Some names) false calls = refl

due_calls_are : (r : RunState) (e : Event) (heard : Bool)
    → limit_met (setting_in r) (step (setting_in r) r.machine e) ≡ None
    → due_calls (setting_in r) (move_by r e) ≡ save_if (stepped r e heard) (is_timely r.machine e)
due_calls_are r e heard within =
    let calls : List Call = save_calls (names_in r.names) (text_of r.line (snapshot_of (move_by r e).after)) in
    ap (λ (met : Option Limit). if is_some r.names && is_timely r.machine e && is_none met then calls else []) within
    ∙ due_where r.names (is_timely r.machine e) calls

pub timely_due : (r : RunState) (e : Event) → limit_met (setting_in r) (step (setting_in r) r.machine e) ≡ None
    → is_some r.names ≡ true → is_timely r.machine e ≡ true → is_due (setting_in r) (move_by r e) ≡ true
timely_due r e within there timely =
    let met : Option Limit = limit_met (setting_in r) (step (setting_in r) r.machine e) in
    ap (λ (b : Bool). b && is_timely r.machine e && is_none met) there ∙ ap (λ (b : Bool). true && b && is_none met) timely
    ∙ ap is_none within

-- only there a call of it has a name
named_there : (names : Option MapNames) (due : Bool) (at : SiteCall) (calls : List Call)
    → IsNameIn at (if due then (if is_some names then calls else []) else []) → (due ≡ true) × (is_some names ≡ true)
named_there None true at calls named = absurd named
named_there (Some names) true at calls named = (refl, refl)
named_there names false at calls named = absurd named

pub save_named : (r : RunState) (due : Bool) (at : SiteCall) → IsNameIn at (save_if r due)
    → (due ≡ true) × (is_some r.names ≡ true)
save_named r due at named =
    named_there r.names due at (save_calls (names_in r.names) (text_of r.line (snapshot_of r.machine))) named

-- a move makes its save after its write
pub move_makes : (r : RunState) (e : Event) (heard : Bool) (a b c : SiteState)
    → limit_met (setting_in r) (step (setting_in r) r.machine e) ≡ None → Keeps a b
    → Makes (write_calls (setting_in r) e.reading) a b → Makes (save_if (stepped r e heard) (is_timely r.machine e)) b c
    → Makes (move_calls (setting_in r) (move_by r e)) a c
move_makes r e heard a b c within keeps writes saves =
    let w : List Call = write_calls (setting_in r) e.reading in
    let all : List Call = save_if (stepped r e heard) (is_timely r.machine e) in
    subst (λ (cs : List Call). Makes (w ++ cs) a c) (sym (due_calls_are r e heard within))
    (makes_both w all a b c keeps writes saves)

-- and up to a call of the save that failed
pub timely_breaks : (at : SiteCall) (xs ys : List Call) (a b c : SiteState) → Keeps a b → Makes xs a b → Breaks at ys b c
    → IsTrue a.tells → BrokeAt at ys (a.calls ++ map Done xs) c.calls
timely_breaks at xs ys a b c keeps x y tells =
    subst (λ (es : List Entry). BrokeAt at ys es c.calls) (x.made tells)
    (y.broke (subst (λ t. IsTrue t) (sym keeps.tells) tells))

pub timely_rose : (xs : List Call) (a b : SiteState) (faults : ℕ) → Makes xs a b → Rose b.faults faults
    → Rose a.faults faults
timely_rose xs a b faults x rose = rose ∙ ap raised x.faults
