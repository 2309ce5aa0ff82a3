-- Turns of copying, one after another, and one that stops.
use Rattle.std.proofs.Common.{◌≡◌, ℕ, ◌+◌, ◌<◌, ◌≤◌, ◌^◌, true, false, IsTrue, List, [], ◌∷◌, ◌++◌, length, drop, All, None, refl, sym, ap, ◌∙◌, arith, subst, append-nil}
use Rattle.std.specs.List.{slice_range}
use Rattle.std.proofs.lemmas.List.Elements.{All-nil, All-cons, All-append}
use Rattle.run_options.specs.Settings.{HasPlaces}
use Rattle.faulty_source.specs.Journal.{Reading, IsFrom}
use Rattle.faulty_source.specs.SourceState.{SourceState}
use Rattle.faulty_source.specs.SourceChanges.{Stays as SourceStays, Reads}
use Rattle.faulty_source.proofs.Keeping.{stays_self, stays_more, reads_more}
use Rattle.crash_site.specs.Calls.{Call}
use Rattle.crash_site.specs.SiteState.{SiteState}
use Rattle.crash_site.specs.SiteChanges.{Makes}
use Rattle.mapfile_save.proofs.FillLemmas.{keeps_self, keeps_more}
use Rattle.rescue_console.specs.ClockState.{ClockState, Reads as ReadsClock}
use Rattle.rescue_console.specs.ConsoleState.{ConsoleState}
use Rattle.rescue_console.specs.Speaking.{SpeaksOn, out_pieces}
use Rattle.rescue_console.proofs.SpeakingLemmas.{says_none}
use Rattle.transfer_token.specs.declared.token.Request.{Request}
use Rattle.rescue_rules.specs.declared.phase.Phase.{Phase}
use Rattle.rescue_rules.specs.declared.phase.Phase.TheVariants.{Copying}
use Rattle.rescue_rules.specs.declared.stop.Stop.{Stop}
use Rattle.rescue_rules.specs.Setting.{Setting}
use Rattle.rescue_rules.specs.Passes.{Pass, numbered, copying_passes}
use Rattle.rescue_rules.specs.Machine.{Machine, IsRequest, has_request}
use Rattle.rescue_rules.specs.Step.{Event, limit_met, step}
use Rattle.rescue_rules.specs.Moves.{Move, move_of, ready, state_after, IsMove, IsRun}
use Rattle.rescue_rules.specs.Events.{reads_of, times_of}
use Rattle.rescue_rules.specs.RunCalls.{move_calls, run_calls}
use Rattle.rescue_rules.specs.Lines.{move_lines, run_lines}
use Rattle.rescue_rules.specs.Laws.{AreTimes}
use Rattle.rescue_rules.proofs.MoveLemmas.{reads_append}
use Rattle.rescue_rules.proofs.ReadyLemmas.{ready_here}
use Rattle.rescue_rules.proofs.SearchLemmas.{request_seen}
use Rattle.rescue_domain.specs.Parts.{covers}
use Rattle.rescue_core.specs.declared.turn.Turn.{Turn}
use Rattle.rescue_rules.specs.Across.{Across, across, ObjectsStay}
use Rattle.rescue_core.specs.RunState.{RunState, setting_in, passed}
use Rattle.rescue_core.specs.Turning.{IsEvent, move_by, Turned, Halted, stepped, move_pieces}
use Rattle.rescue_core.specs.Closing.{drafting_at_stop}
use Rattle.rescue_core.proofs.ObjectLemmas.{clock_self, clock_keeps, timed_more, makes_more, says_more}
use Rattle.rescue_phases.specs.Turns.{IsAlike, moved_to, Went, WentUpTo, WentByTurns}
use Rattle.rescue_phases.specs.Copying.{MayCopy}
use Rattle.rescue_phases.proofs.AlikeLemmas.{alike_by, alike_on, next_pass_is_alike, RunMore, run_more}
use Rattle.rescue_phases.proofs.CopyingLemmas.{ahead_of, CopyStep, copy_steps, two_of, copying_passed}

pub times_append : (front back : List Event) → times_of (front ++ back) ≡ times_of front ++ times_of back
times_append [] back = refl
times_append (e ∷ front) back = ap (λ (ts : List ℕ). e.before ∷ e.after ∷ ts) (times_append front back)

-- no turn
went_none : (r : RunState) (a : SourceState) (d : SiteState) (k : ClockState) (x : ConsoleState)
    → Went r r (across a a d d k k x x)
went_none r a d k x = record {
  events = [];
  run = record { each = All-nil (IsMove (setting_in r)) };
  stands = refl;
  state = alike_by (setting_in r) r.machine r.machine refl;
  read = record { told = λ tells. sym (append-nil a.journal); losses = refl };
  right = λ tells. All-nil (IsFrom a.bytes);
  timed = record { tells = λ now. now; told = λ now. sym (append-nil k.readings) };
  fit = All-nil (λ t. t < 2 ^ 64);
  made = record { made = λ tells. sym (append-nil d.calls); faults = refl };
  says = says_none r.heard x;
}

-- an event of a run's request is a run
pub record IsOneMove (r : RunState) (e : Event) : Type 0 where
  pub asks : IsRequest (setting_in r) r.machine e.reading.pos (e.reading.pos + e.reading.asked)
  pub few : length e.reading.given ≤ e.reading.asked
  pub run : IsRun (setting_in r) r.machine (e ∷ [])
  pub state : IsAlike (setting_in r) (state_after (setting_in r) r.machine (e ∷ [])) (move_by r e).after
  pub calls : run_calls (setting_in r) r.machine (e ∷ []) ≡ move_calls (setting_in r) (move_by r e)
  pub lines : run_lines (setting_in r) r.machine (e ∷ []) ≡ move_lines (setting_in r) (move_by r e)

pub one_move : (r : RunState) (request : Request) (e : Event) (a a2 : SourceState) (k k2 : ClockState)
    → limit_met (setting_in r) r.machine ≡ None
    → IsRequest (setting_in r) r.machine request.pos (request.pos + request.len) → IsEvent request e a a2 k k2 → IsOneMove r e
one_move r request e a a2 k k2 within asks is =
    let s : Setting = setting_in r in
    let m : Machine = r.machine in
    let asks' : IsRequest s m e.reading.pos (e.reading.pos + e.reading.asked) = rw (is.pos, is.asked) asks in
    let few : length e.reading.given ≤ e.reading.asked = omega (arith, is.few, is.asked) in
    let here : ready s m ≡ m = ready_here s m (request_seen s m e.reading.pos (e.reading.pos + e.reading.asked) asks') in
    let M : Machine → Move = λ n. record { before = n; event = e; after = step s n e } in
    let moved : move_of s m e ≡ move_by r e = ap M here in
    let one : IsMove s (move_of s m e) = subst (λ (v : Move). IsMove s v) (sym moved) (record { request = asks'; few = few; within = within }) in
    record {
      asks = asks';
      few = few;
      run = record { each = All-cons (IsMove s) (move_of s m e) [] one (All-nil (IsMove s)) };
      state = alike_by s (move_of s m e).after (move_by r e).after (ap (λ (v : Move). ready s v.after) (sym moved));
      calls = append-nil (move_calls s (move_of s m e)) ∙ ap (λ (v : Move). move_calls s v) moved;
      lines = append-nil (move_lines s (move_of s m e)) ∙ ap (λ (v : Move). move_lines s v) moved;
    }

own_bytes : (request : Request) (e : Event) (a a2 : SourceState) (k k2 : ClockState) → IsEvent request e a a2 k k2
    → IsTrue a.tells → IsFrom a.bytes e.reading
own_bytes request e a a2 k k2 is tells =
    is.right tells ∙ ap (λ (pos : ℕ). slice_range a.bytes pos (pos + length e.reading.given)) (sym is.pos)

-- an event, with its calls and its line
pub went_event : (r r2 : RunState) (request : Request) (e : Event) (o : Across) → limit_met (setting_in r) r.machine ≡ None
    → IsRequest (setting_in r) r.machine request.pos (request.pos + request.len)
    → IsEvent request e o.source o.source' o.clock o.clock' → r2 ≡ stepped r e r2.heard
    → Makes (move_calls (setting_in r) (move_by r e)) o.site o.site'
    → SpeaksOn (move_pieces r e) r.heard r2.heard o.console o.console' → Went r r2 o
went_event r r2 request e o within asks is steps calls says =
    let s : Setting = setting_in r in
    let one : IsOneMove r e = one_move r request e o.source o.source' o.clock o.clock' within asks is in
    let small : ℕ → Type 0 = λ n. n < 2 ^ 64 in
    let from : Reading → Type 0 = IsFrom o.source.bytes in
    record {
      events = e ∷ [];
      run = one.run;
      stands = subst (λ (q : RunState). q ≡ moved_to r q) (sym steps) refl;
      state = subst (λ (q : RunState). IsAlike s (state_after s r.machine (e ∷ [])) q.machine) (sym steps) one.state;
      read = is.read;
      right = λ tells. All-cons from e.reading []
          (own_bytes request e o.source o.source' o.clock o.clock' is tells) (All-nil from);
      timed = is.times;
      fit = All-cons small e.before (e.after ∷ []) is.before (All-cons small e.after [] is.after (All-nil small));
      made = subst (λ (cs : List Call). Makes cs o.site o.site') (sym one.calls) calls;
      says = subst (λ (ls : List (List ℕ)). SpeaksOn (out_pieces ls) r.heard r2.heard o.console o.console') (sym one.lines)
          says;
    }

-- one turn
went_one : (r r2 : RunState) (request : Request) (turn : Turn) (o : Across) → limit_met (setting_in r) r.machine ≡ None
    → IsRequest (setting_in r) r.machine request.pos (request.pos + request.len) → Turned request turn r r2 o → Went r r2 o
went_one r r2 request turn o within asks t = went_event r r2 request t.event o within asks t.is t.steps t.calls t.says

-- the setting of a run stands
pub setting_stands : (r q : RunState) → q ≡ moved_to r q → setting_in q ≡ setting_in r
setting_stands r q stands = ap setting_in stands

-- turns after turns
pub went_on : (r r1 r2 : RunState) (a b c : SourceState) (d e f : SiteState) (k l n : ClockState) (x y z : ConsoleState)
    → Went r r1 (across a b d e k l x y) → SourceStays a b → e.tells ≡ d.tells → Went r1 r2 (across b c e f l n y z)
    → Went r r2 (across a c d f k n x z)
went_on r r1 r2 a b c d e f k l n x y z w stays tells_site v =
    let s : Setting = setting_in r in
    let same : setting_in r1 ≡ s = setting_stands r r1 w.stands in
    let run : IsRun s r1.machine v.events = subst (λ (t : Setting). IsRun t r1.machine v.events) same v.run in
    let state : IsAlike s (state_after s r1.machine v.events) r2.machine =
    subst (λ (t : Setting). IsAlike t (state_after t r1.machine v.events) r2.machine) same v.state in
    let made : Makes (run_calls s r1.machine v.events) e f =
    subst (λ (t : Setting). Makes (run_calls t r1.machine v.events) e f) same v.made in
    let says : SpeaksOn (out_pieces (run_lines s r1.machine v.events)) r1.heard r2.heard y z =
    subst (λ (t : Setting). SpeaksOn (out_pieces (run_lines t r1.machine v.events)) r1.heard r2.heard y z) same v.says in
    let more : RunMore s r.machine r1.machine w.events v.events =
    run_more s r.machine r1.machine w.events v.events w.run w.state run in
    let reads : reads_of w.events ++ reads_of v.events ≡ reads_of (w.events ++ v.events) = sym (reads_append w.events v.events) in
    let times : times_of w.events ++ times_of v.events ≡ times_of (w.events ++ v.events) = sym (times_append w.events v.events) in
    let small : ℕ → Type 0 = λ t. t < 2 ^ 64 in
    record {
      events = w.events ++ v.events;
      run = more.run;
      stands = v.stands ∙ ap (λ (q : RunState). moved_to q r2) w.stands;
      state = alike_on s (state_after s r.machine (w.events ++ v.events)) (state_after s r1.machine v.events) r2.machine more.state state;
      read = subst (λ (xs : List Reading). Reads xs a c) reads
          (reads_more (reads_of w.events) (reads_of v.events) a b c stays.keeps.tells w.read v.read);
      right = λ tells. subst (λ (xs : List Reading). All (IsFrom a.bytes) xs) reads
          (All-append (IsFrom a.bytes) (reads_of w.events) (reads_of v.events) (w.right tells)
          (subst (λ (bytes : List ℕ). All (IsFrom bytes) (reads_of v.events)) (stays.keeps.bytes tells)
          (v.right (rw stays.keeps.tells tells))));
      timed = subst (λ (ts : List ℕ). ReadsClock ts k n) times
          (timed_more (times_of w.events) (times_of v.events) k l n w.timed v.timed);
      fit = subst AreTimes times (All-append small (times_of w.events) (times_of v.events) w.fit v.fit);
      made = subst (λ (cs : List Call). Makes cs d f) (sym more.calls)
          (makes_more (run_calls s r.machine w.events) (run_calls s r1.machine v.events) d e f tells_site w.made made);
      says = subst (λ (ls : List (List ℕ)). SpeaksOn (out_pieces ls) r.heard r2.heard x z) (sym more.lines)
          (says_more (run_lines s r.machine w.events) (run_lines s r1.machine v.events) r.heard r1.heard r2.heard x y z
          w.says says);
    }

-- a turn that stopped after turns after turns
pub went_up_to_on : (stop : Stop) (r r1 r2 : RunState) (a b c : SourceState) (d e f : SiteState) (k l n : ClockState)
    (x y z : ConsoleState) → Went r r1 (across a b d e k l x y) → SourceStays a b → e.tells ≡ d.tells
    → WentUpTo stop r1 r2 (across b c e f l n y z) → WentUpTo stop r r2 (across a c d f k n x z)
went_up_to_on stop r r1 r2 a b c d e f k l n x y z w stays tells_site u = record {
  between = u.between;
  source_between = u.source_between;
  site_between = u.site_between;
  clock_between = u.clock_between;
  console_between = u.console_between;
  went = went_on r r1 u.between a b u.source_between d e u.site_between k l u.clock_between x y u.console_between w stays
      tells_site u.went;
  source = stays_more a b u.source_between stays u.source;
  site_tells = u.site_tells ∙ tells_site;
  within = u.within;
  request = u.request;
  asks = u.asks;
  halted = u.halted;
  draft = u.draft;
}

pub objects_stay : (a b c : SourceState) (d e f : SiteState) (k l n : ClockState) (x y z : ConsoleState)
    → ObjectsStay (across a b d e k l x y) → ObjectsStay (across b c e f l n y z) → ObjectsStay (across a c d f k n x z)
objects_stay a b c d e f k l n x y z i j = record {
  source = stays_more a b c i.source j.source;
  site = keeps_more d e f i.site j.site;
  image = j.image;
  clock = clock_keeps k l n i.clock j.clock;
}

-- A run begins,
pub begins : (r : RunState) (a : SourceState) (d : SiteState) (k : ClockState) (x : ConsoleState)
    → HasPlaces r.settings (covers r.domain) → a.is_open ≡ true → d.is_open ≡ true → d.is_drafting ≡ false
    → WentByTurns r r (across a a d d k k x x)
begins r a d k x places input image no_draft = record {
  places = places;
  went = went_none r a d k x;
  input = input;
  no_draft = no_draft;
  objects = record { source = stays_self a; site = keeps_self d; image = image; clock = clock_self k };
}

-- goes on by what goes on from there,
pub goes_on : (r r1 r2 : RunState) (a b c : SourceState) (d e f : SiteState) (k l n : ClockState) (x y z : ConsoleState)
    → WentByTurns r r1 (across a b d e k l x y) → WentByTurns r1 r2 (across b c e f l n y z) → WentByTurns r r2 (across a c d f k n x z)
goes_on r r1 r2 a b c d e f k l n x y z i j = record {
  places = j.places;
  went = went_on r r1 r2 a b c d e f k l n x y z i.went i.objects.source i.objects.site.tells j.went;
  input = j.input;
  no_draft = j.no_draft;
  objects = objects_stay a b c d e f k l n x y z i.objects j.objects;
}

-- by a turn,
pub goes_on_by_turn : (r r1 r2 : RunState) (request : Request) (turn : Turn) (a b c : SourceState) (d e f : SiteState)
    (k l n : ClockState) (x y z : ConsoleState) → WentByTurns r r1 (across a b d e k l x y)
    → limit_met (setting_in r1) r1.machine ≡ None
    → IsRequest (setting_in r1) r1.machine request.pos (request.pos + request.len)
    → Turned request turn r1 r2 (across b c e f l n y z) → f.is_drafting ≡ false → ObjectsStay (across b c e f l n y z)
    → WentByTurns r r2 (across a c d f k n x z)
goes_on_by_turn r r1 r2 request turn a b c d e f k l n x y z i within asks t no_draft objects =
    goes_on r r1 r2 a b c d e f k l n x y z i (record {
      places = subst (λ (q : RunState). HasPlaces q.settings (covers q.domain)) (sym t.steps) i.places;
      went = went_one r1 r2 request turn (across b c e f l n y z) within asks t;
      input = objects.source.input ∙ i.input;
      no_draft = no_draft;
      objects = objects;
    })

-- or by the start of its next pass.
pub goes_on_by_pass : (r r1 r2 : RunState) (o : Across) (phase : Phase) (number : ℕ) (first : Pass) → WentByTurns r r1 o
    → has_request (setting_in r1) r1.machine ≡ false
    → r1.machine.passes ≡ first ∷ numbered phase number ∷ drop 2 r1.machine.passes → r2 ≡ passed r1 phase number
    → WentByTurns r r2 o
goes_on_by_pass r r1 r2 o phase number first i spent are is =
    let s : Setting = setting_in r1 in
    let n : RunState = passed r1 phase number in
    let next : IsAlike (setting_in r) r1.machine n.machine =
    subst (λ (t : Setting). IsAlike t r1.machine n.machine) (setting_stands r r1 i.went.stands)
    (next_pass_is_alike s r1.machine first (numbered phase number) (drop 2 r1.machine.passes) spent are) in
    subst (λ (q : RunState). WentByTurns r q o) (sym is) (record {
      places = i.places;
      went = record {
        events = i.went.events;
        run = i.went.run;
        stands = ap (λ (q : RunState). moved_to q n) i.went.stands;
        state = alike_on (setting_in r) (state_after (setting_in r) r.machine i.went.events) r1.machine n.machine
            i.went.state next;
        read = i.went.read;
        right = i.went.right;
        timed = i.went.timed;
        fit = i.went.fit;
        made = i.went.made;
        says = i.went.says;
      };
      input = i.input;
      no_draft = i.no_draft;
      objects = i.objects;
    })

-- A turn stops.
pub halts : (stop : Stop) (r r1 r2 : RunState) (request : Request) (a b c : SourceState) (d e f : SiteState)
    (k l n : ClockState) (x y z : ConsoleState) → WentByTurns r r1 (across a b d e k l x y)
    → limit_met (setting_in r1) r1.machine ≡ None
    → IsRequest (setting_in r1) r1.machine request.pos (request.pos + request.len)
    → Halted request stop r1 r2 (across b c e f l n y z) → f.is_drafting ≡ drafting_at_stop stop
    → WentUpTo stop r r2 (across a c d f k n x z)
halts stop r r1 r2 request a b c d e f k l n x y z i within asks h draft = record {
  between = r1;
  source_between = b;
  site_between = e;
  clock_between = l;
  console_between = y;
  went = i.went;
  source = i.objects.source;
  site_tells = i.objects.site.tells;
  within = within;
  request = request;
  asks = asks;
  halted = h;
  draft = draft;
}

-- A turn of copying
turn_step : (r r2 : RunState) (request : Request) (turn : Turn) (o : Across) → MayCopy r
    → IsRequest (setting_in r) r.machine request.pos (request.pos + request.len) → (t : Turned request turn r r2 o)
    → CopyStep r t.event r2.heard
turn_step r r2 request turn o copying asks t =
    let one : IsOneMove r t.event =
    one_move r request t.event o.source o.source' o.clock o.clock' copying.within asks t.is in
    copy_steps r t.event r2.heard copying one.asks one.few
    (ap (λ (q : RunState). limit_met (setting_in r) q.machine) (sym t.steps) ∙ t.within)

-- leaves less of the map ahead,
pub less_ahead : (r r2 : RunState) (request : Request) (turn : Turn) (o : Across) → MayCopy r
    → IsRequest (setting_in r) r.machine request.pos (request.pos + request.len) → Turned request turn r r2 o
    → ahead_of r2 < ahead_of r
less_ahead r r2 request turn o copying asks t =
    subst (λ (q : RunState). ahead_of q < ahead_of r) (sym t.steps) (turn_step r r2 request turn o copying asks t).less

-- in the same pass, and copying may go on.
pub copies_on : (r r2 : RunState) (request : Request) (turn : Turn) (o : Across) → MayCopy r
    → IsRequest (setting_in r) r.machine request.pos (request.pos + request.len) → Turned request turn r r2 o → MayCopy r2
copies_on r r2 request turn o copying asks t =
    subst MayCopy (sym t.steps) (turn_step r r2 request turn o copying asks t).copying

-- So may it after the start of its next pass.
pub goes_on_by_next : (r r1 r2 : RunState) (o : Across) (pass : ℕ) → WentByTurns r r1 o → MayCopy r1
    → has_request (setting_in r1) r1.machine ≡ false → r1.pass < copying_passes → pass ≡ r1.pass
    → r2 ≡ passed r1 Copying (pass + 1) → WentByTurns r r2 o × MayCopy r2
goes_on_by_next r r1 r2 o pass i copying spent few same is =
    let c : Pass = numbered Copying r1.pass in
    let p : Pass = numbered Copying (r1.pass + 1) in
    let two : (ps : List Pass) × (r1.machine.passes ≡ c ∷ p ∷ ps) =
    ((two_of (setting_in r1) r1.pass few).0, copying.passes ∙ (two_of (setting_in r1) r1.pass few).1) in
    let are : r1.machine.passes ≡ c ∷ p ∷ drop 2 r1.machine.passes =
    two.1 ∙ ap (λ (ps : List Pass). c ∷ p ∷ ps) (sym (ap (λ (ps : List Pass). drop 2 ps) two.1)) in
    let there : r2 ≡ passed r1 Copying (r1.pass + 1) = is ∙ ap (λ (n : ℕ). passed r1 Copying (n + 1)) same in (
      goes_on_by_pass r r1 r2 o Copying (r1.pass + 1) c i spent are there,
      subst MayCopy (sym there) (copying_passed r1 copying few),
    )
