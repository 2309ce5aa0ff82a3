-- Turns of a copy, and one more event.
use Rattle.std.proofs.Common.{◌≡◌, ℕ, ◌+◌, ◌<◌, ◌≤◌, ◌^◌, IsTrue, List, [], ◌∷◌, ◌++◌, length, All, sym, ap, ◌∙◌, subst, None}
use Rattle.std.specs.List.{slice_range}
use Rattle.std.proofs.lemmas.List.Elements.{All-nil, All-cons, All-append}
use Rattle.faulty_source.specs.Journal.{Reading, IsFrom}
use Rattle.faulty_source.specs.SourceState.{SourceState}
use Rattle.faulty_source.specs.SourceChanges.{Stays as SourceStays, Reads}
use Rattle.faulty_source.proofs.Keeping.{reads_more}
use Rattle.crash_site.specs.Calls.{Call}
use Rattle.crash_site.specs.SiteState.{SiteState}
use Rattle.rescue_console.specs.ClockState.{ClockState, Reads as ReadsClock}
use Rattle.transfer_token.specs.declared.token.Request.{Request}
use Rattle.rescue_rules.specs.Setting.{Setting}
use Rattle.rescue_rules.specs.Machine.{Machine, IsRequest}
use Rattle.rescue_rules.specs.Step.{Event, step, limit_met}
use Rattle.rescue_rules.specs.Moves.{Move, move_of, ready, state_after, IsMove, IsRun}
use Rattle.rescue_rules.specs.MachineLaws.{GoesOnBy}
use Rattle.rescue_rules.specs.Events.{reads_of, times_of}
use Rattle.rescue_rules.specs.RunCalls.{move_calls}
use Rattle.rescue_rules.specs.Laws.{AreTimes}
use Rattle.rescue_rules.proofs.MoveLemmas.{goes_on, reads_append}
use Rattle.rescue_rules.proofs.ReadyLemmas.{ready_here}
use Rattle.rescue_rules.proofs.SearchLemmas.{request_seen}
use Rattle.rescue_core.specs.RunState.{RunState, setting_in}
use Rattle.rescue_core.specs.Turning.{IsEvent, move_by}
use Rattle.rescue_rules.specs.Across.{Across}
use Rattle.rescue_core.proofs.ObjectLemmas.{timed_more}
use Rattle.rescue_phases.specs.Turns.{IsAlike, Went}
use Rattle.rescue_phases.proofs.TurnLemmas.{times_append}

-- A run of events that led to another run's state, or to one alike, and one more that reads that one's request.
pub record EventMore (r r1 : RunState) (es : List Event) (e : Event) : Type 0 where
  pub run : IsRun (setting_in r) r.machine (es ++ e ∷ [])
  pub calls : move_calls (setting_in r) (move_of (setting_in r) (state_after (setting_in r) r.machine es) e)
      ≡ move_calls (setting_in r1) (move_by r1 e)

pub event_more : (r r1 : RunState) (es : List Event) (e : Event) → IsRun (setting_in r) r.machine es
    → setting_in r1 ≡ setting_in r → IsAlike (setting_in r) (state_after (setting_in r) r.machine es) r1.machine
    → limit_met (setting_in r1) r1.machine ≡ None
    → IsRequest (setting_in r1) r1.machine e.reading.pos (e.reading.pos + e.reading.asked)
    → length e.reading.given ≤ e.reading.asked → EventMore r r1 es e
event_more r r1 es e run same alike within asks few =
    let s : Setting = setting_in r in
    let m : Machine = state_after s r.machine es in
    let n : Machine = r1.machine in
    let asks' : IsRequest s n e.reading.pos (e.reading.pos + e.reading.asked) =
    subst (λ (t : Setting). IsRequest t n e.reading.pos (e.reading.pos + e.reading.asked)) same asks in
    let here : ready s m ≡ n =
    sym alike.next ∙ ready_here s n (request_seen s n e.reading.pos (e.reading.pos + e.reading.asked) asks') in
    let M : Machine → Move = λ k. record { before = k; event = e; after = step s k e } in
    let moved : move_of s m e ≡ M n = ap M here in
    let is : IsMove s (move_of s m e) = subst (λ (v : Move). IsMove s v) (sym moved) (record {
      request = asks';
      few = few;
      within = subst (λ (t : Setting). limit_met t n ≡ None) same within;
    }) in
    let on : GoesOnBy s r.machine es e = goes_on s r.machine es e run is in
    let C : Setting → List Call = λ t. move_calls t (record { before = n; event = e; after = step t n e }) in
    record {
      run = on.run;
      calls = ap (λ (v : Move). move_calls s v) moved ∙ ap C (sym same);
    }

own_bytes : (request : Request) (e : Event) (a b source2 : SourceState) (k k2 : ClockState) → IsEvent request e b source2 k k2
    → SourceStays a b → IsTrue a.tells → IsFrom a.bytes e.reading
own_bytes request e a b source2 k k2 is stays tells =
    let own : e.reading.given ≡ slice_range b.bytes request.pos (request.pos + length e.reading.given) = is.right (rw stays.keeps.tells tells) in
    let P : List ℕ → ℕ → List ℕ = λ bytes pos. slice_range bytes pos (pos + length e.reading.given) in
    own ∙ ap (λ (bytes : List ℕ). P bytes request.pos) (stays.keeps.bytes tells) ∙ ap (P a.bytes) (sym is.pos)

-- the reads and readings of a run's turns, and of one more event
pub record ReadsMore (r : RunState) (es : List Event) (e : Event) (o : Across) : Type 0 where
  pub read : Reads (reads_of (es ++ e ∷ [])) o.source o.source'
  pub right : IsTrue o.source.tells → All (IsFrom o.source.bytes) (reads_of (es ++ e ∷ []))
  pub timed : ReadsClock (times_of (es ++ e ∷ [])) o.clock o.clock'
  pub fit : AreTimes (times_of (es ++ e ∷ []))

pub read_more : (r r1 : RunState) (o : Across) (request : Request) (source2 : SourceState) (site2 : SiteState) (clock2 : ClockState)
    (e : Event) → (w : Went r r1 o) → IsEvent request e o.source' source2 o.clock' clock2 → SourceStays o.source o.source'
    → ReadsMore r w.events e (record o { source' = source2; site' = site2; clock' = clock2 })
read_more r r1 o request source2 site2 clock2 e w is stays =
    let R : List Reading → Type 0 = λ reads. Reads reads o.source source2 in
    let A : List Reading → Type 0 = λ reads. All (IsFrom o.source.bytes) reads in
    let T : List ℕ → Type 0 = λ times. ReadsClock times o.clock clock2 in
    let F : List ℕ → Type 0 = AreTimes in
    let reads : reads_of w.events ++ e.reading ∷ [] ≡ reads_of (w.events ++ e ∷ []) = sym (reads_append w.events (e ∷ [])) in
    let times : times_of w.events ++ e.before ∷ e.after ∷ [] ≡ times_of (w.events ++ e ∷ []) = sym (times_append w.events (e ∷ [])) in
    let small : ℕ → Type 0 = λ t. t < 2 ^ 64 in
    record {
      read = subst R reads (reads_more (reads_of w.events) (e.reading ∷ []) o.source o.source' source2 stays.keeps.tells w.read is.read);
      right = λ tells. subst A reads (All-append (IsFrom o.source.bytes) (reads_of w.events) (e.reading ∷ []) (w.right tells)
          (All-cons (IsFrom o.source.bytes) e.reading [] (own_bytes request e o.source o.source' source2 o.clock' clock2 is stays tells)
          (All-nil (IsFrom o.source.bytes))));
      timed = subst T times (timed_more (times_of w.events) (e.before ∷ e.after ∷ []) o.clock o.clock' clock2 w.timed is.times);
      fit = subst F times (All-append small (times_of w.events) (e.before ∷ e.after ∷ []) w.fit
          (All-cons small e.before (e.after ∷ []) is.before (All-cons small e.after [] is.after (All-nil small))));
    }
