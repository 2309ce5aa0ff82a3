-- Before each read every save that came due has returned.
use Rattle.std.proofs.Common.{◌≡◌, inl, inr, ⊎_elim, ℕ, suc, ◌+◌, ◌<◌, ◌≤◌, Bool, true, false, if◌then◌else◌, List, [], ◌∷◌, ◌++◌, map, Option, refl, sym, ap, ◌∙◌, subst, arith, append_assoc, append-nil}
use Rattle.std.proofs.lemmas.Bool.{cases_Bool}
use Rattle.std.proofs.lemmas.List.{append_cancel_left, map-append}
use Rattle.faulty_source.specs.Journal.{Reading}
use Rattle.crash_site.specs.declared.site.SiteCall.{SiteCall}
use Rattle.crash_site.specs.Files.{File}
use Rattle.crash_site.specs.Calls.{Call, Entry, Done, Failed, image_open}
use Rattle.crash_site.specs.CallsMade.{BrokeAt}
use Rattle.mapfile_save.specs.MapNames.{MapNames}
use Rattle.mapfile_save.specs.Loading.{barrier_calls}
use Rattle.mapfile_save.specs.Saving.{save_calls}
use Rattle.rescue_rules.specs.declared.stop.RunEnd.{RunEnd}
use Rattle.rescue_rules.specs.declared.tally.Tally.{Tally}
use Rattle.rescue_rules.specs.Setting.{Setting, IsSensible}
use Rattle.rescue_rules.specs.Machine.{Machine}
use Rattle.rescue_rules.specs.Step.{Event, is_timely}
use Rattle.rescue_rules.specs.Moves.{ready, move_of, state_after, IsRun}
use Rattle.rescue_rules.specs.Events.{began_at, events_of}
use Rattle.rescue_rules.specs.RunCalls.{due_calls, move_calls, run_calls, end_calls}
use Rattle.rescue_rules.specs.Snapshots.{text_of, snapshot_of, is_due}
use Rattle.rescue_rules.specs.Stops.{files_before, is_settle, returned}
use Rattle.rescue_rules.specs.Work.{Gain, begins, events_in, opening_calls, Ends, IsSaved, IsUnsaved, IsBroken, GoesOn, InOpening, InLoad, InRun, Goes, InMaps, AfterMaps}
use Rattle.rescue_rules.proofs.MoveLemmas.{run_rest}
use Rattle.rescue_rules.proofs.ReadyLemmas.{stays_ready}
use Rattle.rescue_safety.proofs.BegunLemmas.{count_both, count_step}
use Rattle.rescue_safety.proofs.SafeLemmas.{p, s, g, b, on, ok, goes, calls_are, seen_alone}
use Rattle.rescue_safety.proofs.SettleLemmas.{settled, save_settled}
use Rattle.saved_laws.specs.Dues.{dues_by}
use Rattle.saved_laws.specs.Laws.{DueSavesReturn}
use Rattle.saved_laws.proofs.LossLemmas.{due_before}
use Rattle.saved_laws.proofs.SavedWalk.{read_settles}

-- ---- what is due by the clock, a move at a time

module _ (s : Setting) (m : Machine) (e : Event) (old : List Event) where
  pub due_here : (timely : Bool) → is_timely (ready s m) e ≡ timely → dues_by (ready s m).tally.due_at (e ∷ old)
      ≡ (if timely then suc (dues_by (move_of s m e).after.tally.due_at old) else dues_by (move_of s m e).after.tally.due_at old)
  due_here true is =
      ap (λ (c : Bool). if c then suc (dues_by e.after old) else dues_by (ready s m).tally.due_at old) is
      ∙ ap (λ (c : Bool). suc (dues_by (if c then e.after else (ready s m).tally.due_at) old)) (sym is)
  due_here false is =
      ap (λ (c : Bool). if c then suc (dues_by e.after old) else dues_by (ready s m).tally.due_at old) is
      ∙ ap (λ (c : Bool). dues_by (if c then e.after else (ready s m).tally.due_at) old) (sym is)

  pub ready_at : dues_by m.tally.due_at (e ∷ old) ≡ dues_by (ready s m).tally.due_at (e ∷ old)
  ready_at = ap (λ (a : Tally). dues_by a.due_at (e ∷ old)) (sym (stays_ready s m).tally)

-- without reads there are no events
pub no_events : (rs : List Reading) (times : List ℕ) → rs ≡ [] → (old more : List Event) → events_of rs times ≡ old ++ more
    → old ≡ []
no_events rs times none [] more is = refl
no_events rs times none (e ∷ old) more is =
    let no : [] ≡ e ∷ (old ++ more) = sym (ap (λ (l : List Reading). events_of l times) none) ∙ is in absurd (cc)

-- ---- lists

-- calls that broke come after those before them
broke_front : (at : SiteCall) (calls : List Call) (old new : List Entry) → BrokeAt at calls old new
    → (rest : List Entry) × (new ≡ old ++ rest)
broke_front at [] old new broke = absurd broke
broke_front at (call ∷ calls) old new (inl (is, inl (steps, same))) = (Failed call steps ∷ [], same)
broke_front at (call ∷ calls) old new (inl (is, inr same)) = ([], same ∙ sym (append-nil old))
broke_front at (call ∷ calls) old new (inr more) =
    let r = broke_front at calls (old ++ Done call ∷ []) new more in
    (Done call ∷ r.0, r.1 ∙ append_assoc old (Done call ∷ []) r.0)

none_after : (first more : List Event) (next : Event) → [] ≡ first ++ next ∷ more → ⊥
none_after [] more next is = absurd (cc)
none_after (e ∷ first) more next is = absurd (cc)

-- all but the last begin with the first ones
but_last : (before first more : List Event) (last next : Event) → before ++ last ∷ [] ≡ first ++ next ∷ more
    → (b : List Event) × (before ≡ first ++ b)
but_last before [] more last next is = (before, refl)
but_last [] (e ∷ first) more last next is =
    let none : [] ≡ first ++ next ∷ more = cc in absurd (none_after first more next none)
but_last (c ∷ before) (e ∷ first) more last next is =
    let same : c ≡ e = cc in
    let tail : before ++ last ∷ [] ≡ first ++ next ∷ more = cc in
    let r = but_last before first more last next tail in
    (r.0, ap (λ (f : Event). f ∷ before) same ∙ ap (λ (l : List Event). e ∷ l) r.1)

-- ---- a run

module _ (s : Setting) (ok : IsSensible s) (on : s.has_mapfile ≡ true) where
  due_settled : (due : Bool) (text : List ℕ) → due ≡ true
      → 1 ≤ settled (map Done (if due then save_calls s.names text else []))
  due_settled true text is = save_settled s.names text
  due_settled false text is = absurd (cc)

  settles_by : (m : Machine) (e : Event) (es : List Event)
      → settled (map Done (run_calls s m (e ∷ es)))
      ≡ settled (map Done (due_calls s (move_of s m e))) + settled (map Done (run_calls s (move_of s m e).after es))
  settles_by m e es = read_settles s e.reading (due_calls s (move_of s m e)) (run_calls s (move_of s m e).after es)

  -- the moves before a read settle as often as saves came due
  dues_settled : (m : Machine) (first back more : List Event) (next : Event) → IsRun s m (first ++ next ∷ more)
      → dues_by m.tally.due_at first ≤ settled (map Done (run_calls s m (first ++ back)))
  dues_settled m [] back more next run =
      let none : dues_by m.tally.due_at [] ≡ 0 = refl in omega (arith, none)
  dues_settled m (e ∷ first) back more next run =
      let n : Machine = (move_of s m e).after in
      let rest : dues_by (move_of s m e).after.tally.due_at first
      ≤ settled (map Done (run_calls s (move_of s m e).after (first ++ back)))
      = dues_settled n first back more next (run_rest s m e (first ++ next ∷ more) run) in
      ⊎_elim
      (λ (timely : is_timely (ready s m) e ≡ true).
      let le : dues_by m.tally.due_at (e ∷ first) ≤ settled (map Done (run_calls s m (e ∷ (first ++ back)))) = omega (
        arith,
        rest,
        ready_at s m e first,
        due_here s m e first true timely,
        settles_by m e (first ++ back),
        due_settled (is_due s (move_of s m e)) (text_of s.line (snapshot_of n))
            (due_before s ok on 0 m e first next more run timely),
      ) in le)
      (λ (off : is_timely (ready s m) e ≡ false).
      let le : dues_by m.tally.due_at (e ∷ first) ≤ settled (map Done (run_calls s m (e ∷ (first ++ back)))) = omega (
        arith,
        rest,
        ready_at s m e first,
        due_here s m e first false off,
        settles_by m e (first ++ back),
      ) in le)
      (cases_Bool (is_timely (ready s m) e))

  module _ (m : Machine) (first more : List Event) (next : Event) (run : IsRun s m (first ++ next ∷ more)) where
    -- so do calls that begin with theirs
    over_front : (back : List Event) (calls rest : List Entry) → calls ≡ map Done (run_calls s m (first ++ back)) ++ rest
        → dues_by m.tally.due_at first ≤ settled calls
    over_front back calls rest is =
        omega (
          arith,
          dues_settled m first back more next run,
          ap settled is ∙ count_both is_settle (map Done (run_calls s m (first ++ back))) rest,
        )

    over_ends : (events : List Event) (calls : List Entry) (end : RunEnd) → events ≡ first ++ next ∷ more
        → Ends s m events calls end → dues_by m.tally.due_at first ≤ settled calls
    over_ends events calls end is (IsSaved stop ends same all) =
        over_front (next ∷ more) calls (map Done (end_calls s m events))
        (all ∙ map-append Done (run_calls s m events) (end_calls s m events)
        ∙ ap (λ (l : List Event). map Done (run_calls s m l) ++ map Done (end_calls s m events)) is)
    over_ends events calls end is (IsUnsaved stop call ends same broke) =
        let r = broke_front call (end_calls s m events) (map Done (run_calls s m events)) calls broke in
        over_front (next ∷ more) calls r.0
        (r.1 ∙ ap (λ (l : List Event). map Done (run_calls s m l) ++ r.0) is)
    over_ends events calls end is (IsBroken before last call split same broke) =
        let more_calls : List Call = move_calls s (move_of s (state_after s m before) last) in
        let r = broke_front call more_calls (map Done (run_calls s m before)) calls broke in
        let b = but_last before first more last next (sym split ∙ is) in
        over_front b.0 calls r.0 (r.1 ∙ ap (λ (l : List Event). map Done (run_calls s m l) ++ r.0) b.1)

-- ---- a rescue

-- the opening settles a mapfile
barrier_settles : (has : Bool) (names : MapNames) → has ≡ true
    → 1 ≤ settled (map Done (if has then barrier_calls names else []))
barrier_settles true names is =
    let one : settled (map Done (barrier_calls names)) ≡ 1 = refl in omega (arith, one)
barrier_settles false names is = absurd (cc)

module _ (s : Setting) (ok : IsSensible s) (on : s.has_mapfile ≡ true) (files : List ℕ → Option File)
    (first more : List Event) (next : Event) where
  opening_settles : 1 ≤ settled (map Done (opening_calls s))
  opening_settles =
      omega (
        arith,
        barrier_settles s.has_mapfile s.names on,
        count_step is_settle (Done (image_open s.outfile true))
            (map Done (if s.has_mapfile then barrier_calls s.names else [])),
      )

  unread : (g : Gain) → events_in g ≡ first ++ next ∷ more → g.reads ≡ [] → ⊥
  unread g is none =
      none_after first more next
      (sym (ap (λ (l : List Reading). events_of l g.times) none) ∙ is)

  over_on : (g : Gain) → events_in g ≡ first ++ next ∷ more → GoesOn s files g
      → dues_by (began_at g.times) first < settled g.calls
  over_on g is (InOpening front back same none how) = absurd (unread g is none)
  over_on g is (InLoad load there loads none how) = absurd (unread g is none)
  over_on g is (InRun load statuses state end rest loaded stands same runs) =
      let begin : List Call = opening_calls s in
      let m : Machine = begins s statuses state g in
      let run : IsRun s m (first ++ next ∷ more) = subst (λ (l : List Event). IsRun s m l) is runs.run in
      let few : dues_by (began_at g.times) first ≤ settled rest
      = over_ends s ok on m first more next run (events_in g) rest end is runs.ends in
      omega (
        arith,
        few,
        ap settled same ∙ count_both is_settle (map Done (begin ++ load)) rest,
        ap settled (map-append Done begin load),
        count_both is_settle (map Done begin) (map Done load),
        opening_settles,
      )

  over_goes : (g : Gain) → events_in g ≡ first ++ next ∷ more → Goes s files g
      → dues_by (began_at g.times) first < settled g.calls
  over_goes g is (InMaps maps reads none broke) = absurd (unread g is none)
  over_goes g is (AfterMaps maps rest reads same on_goes) =
      let few : dues_by (began_at g.times) first < settled rest = over_on (record g { calls = rest }) is on_goes in
      omega (
        arith,
        few,
        ap settled same ∙ count_both is_settle (map Done maps) rest,
      )

pub due_saves_return : DueSavesReturn
due_saves_return r reads times first more next seen tells readings is =
    let same : times ≡ (g r).times
    = append_cancel_left r.did.call.told.before.clock.readings times (g r).times
    (sym readings ∙ (p r).agrees.agrees.times tells) in
    let at : events_in (g r) ≡ first ++ next ∷ more
    = ap (λ (rs : List Reading). events_of rs (g r).times) (sym (seen_alone r reads seen))
    ∙ ap (λ (ts : List ℕ). events_of reads ts) (sym same) ∙ is in
    let few : dues_by (began_at (g r).times) first < settled (g r).calls
    = over_goes (s r) (ok r) (on r) (files_before (b r)) first more next (g r) at (goes r) in
    let few' : dues_by (began_at times) first < settled (g r).calls
    = subst (λ (ts : List ℕ). dues_by (began_at ts) first < settled (g r).calls) (sym same) few in
    let here : dues_by (began_at times) first < settled r.did.call.calls
    = subst (λ (l : List Entry). dues_by (began_at times) first < settled l) (sym (calls_are r)) few' in
    let le : dues_by (began_at times) first ≤ returned r.did.call.calls = omega (arith, here) in le
