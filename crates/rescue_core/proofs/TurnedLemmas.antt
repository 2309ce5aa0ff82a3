-- What a turn makes of a run.
use Rattle.std.proofs.Common.{◌≡◌, ℕ, ◌+◌, ◌/◌, ◌≤◌, ◌&&◌, List, [], ◌∷◌, length, take, drop, ◌++◌, refl, sym, ap, subst, ◌∙◌, arith, length-append, length-drop, length-take-le}
use Rattle.std.specs.List.{slice_get}
use Rattle.block_list.specs.declared.status.Status.{Status}
use Rattle.block_list.specs.declared.tiles.Tiles.{Ghosts as TilesGhosts}
use Rattle.mapfile_text.specs.declared.heading.Program.TheVariants.{Ddrescue}
use Rattle.transfer_token.specs.declared.token.Request.{Request}
use Rattle.rescue_rules.specs.declared.phase.Phase.{Phase}
use Rattle.rescue_rules.specs.declared.stop.Stop.{Stop}
use Rattle.rescue_rules.specs.Setting.{Setting}
use Rattle.rescue_rules.specs.Passes.{Pass, numbered, current_of}
use Rattle.rescue_rules.specs.Machine.{Machine, pass_of, has_taken, is_live, is_wanted, IsRequest}
use Rattle.rescue_rules.specs.Step.{Event, is_timely}
use Rattle.rescue_rules.specs.Said.{is_line_due}
use Rattle.rescue_core.specs.declared.gather.Gathered.{Gathered}
use Rattle.rescue_core.specs.declared.running.Running.{Running}
use Rattle.rescue_core.specs.declared.turn.Turn.{Turn}
use Rattle.rescue_core.specs.declared.turn.Advanced.{Advanced}
use Rattle.rescue_core.specs.RunState.{RunState, setting_in, run_of, IsRunning, HasCounts, IsRun, IsNext}
use Rattle.rescue_rules.specs.Across.{Across}
use Rattle.rescue_core.specs.Turning.{stepped, Halted}
use Rattle.rescue_core.specs.TurnParts.{RunsAt, IsReadOf, IsGathered, Gathers, GoesOn, Advances}
use Rattle.rescue_core.proofs.TurnLemmas.{request_fits, wanted_in}
use Rattle.rescue_core.proofs.RunningLemmas.{running_steps}

-- the request of a turn is that of its event
event_asks : (s : Setting) (m : Machine) (e : Event) (pos len : ℕ) → e.reading.pos ≡ pos → e.reading.asked ≡ len
    → IsRequest s m pos (pos + len) → IsRequest s m e.reading.pos (e.reading.pos + e.reading.asked)
event_asks s m e pos len from asked request =
    subst (λ x. IsRequest s m x (x + e.reading.asked)) (sym from)
    (subst (λ n. IsRequest s m pos (pos + n)) (sym asked) request)

-- where a run is, in its phase
pub stands_at : {T : Type 0} (t : TilesGhosts T) (r : Running T) (phase : Phase) → IsRun t r → phase ≡ r.phase
    → RunsAt r.settings phase r.progress (run_of t r)
stands_at t r phase is same = record {
  settings_are = refl;
  pass = is.running.pass ∙ ap (λ (p : Phase). numbered p r.progress.pass) (sym same);
  progress_is = refl;
}

-- what a turn answers tells of its read
pub read_of : (request : Request) (r : RunState) (got : Gathered) (e : Event) → IsGathered request r got e
    → IsReadOf request got.turn.given got.turn.ended e.reading
read_of request r got e g = record {
  pos = g.pos;
  asked = g.asked;
  count = sym (ap (λ (t : Turn). t.given) g.turn);
  end = sym (ap (λ (t : Turn). t.ended) g.turn);
}

-- a turn gives no more than was requested
pub gives_few : (request : Request) (r : RunState) (got : Gathered) (e : Event) → IsGathered request r got e
    → got.turn.given ≤ request.len
gives_few request r got e g = omega (arith, ap (λ (t : Turn). t.given) g.turn, g.few)

-- what trimming asks for past the read is what the machine asks for
pub asks_on : {T : Type 0} (t : TilesGhosts T) (r : Running T) (phase : Phase) (request : Request)
    (map after : List Status) → IsRun t r → IsNext (run_of t r) request → phase ≡ r.phase → map ≡ after
    → (is_live (setting_in (run_of t r)) (run_of t r).machine (request.pos + request.len)
    && has_taken (numbered phase 1 ∷ []) (slice_get map (request.pos + request.len)))
    ≡ is_wanted (setting_in (run_of t r)) (record (run_of t r).machine { map = after }) (request.pos + request.len)
asks_on t r phase request map after is next same marks =
    let b : RunState = run_of t r in
    let s : Setting = setting_in b in
    let x : ℕ = request.pos + request.len in
    ap (λ (l : List Status). is_live s b.machine x && has_taken (numbered phase 1 ∷ []) (slice_get l x)) marks
    ∙ wanted_in s b.machine after phase r.progress.pass 1 request.pos x
    (request_fits b (length r.buf.items) request.pos request.len is.running next).wanted
    (stands_at t r phase is same).pass

-- after the marks of a turn a run is as between any turns
pub run_goes : {T : Type 0} (t : TilesGhosts T) (r r' : Running T) (request : Request) (got : Gathered) (e : Event)
    → IsRun t r → IsNext (run_of t r) request → IsGathered request (run_of t r) got e
    → run_of t r' ≡ stepped (run_of t r) e r.keeper.heard → length r'.buf.items ≡ length r.buf.items
    → r'.keeper.heading.program ≡ Ddrescue → HasCounts (stepped (run_of t r) e r.keeper.heard) r'.counts → IsRun t r'
run_goes t r r' request got e is next g steps room program counted =
    let b : RunState = run_of t r in record {
      running = subst (λ (x : RunState). IsRunning x (length r'.buf.items)) (sym steps)
          (subst (λ (n : ℕ). IsRunning (stepped b e r.keeper.heard) n) (sym room)
          (running_steps b (length r.buf.items) e r.keeper.heard is.running
          (event_asks (setting_in b) b.machine e request.pos request.len g.pos g.asked next)
          (omega (arith, g.few, g.asked))));
      program = program;
      counted = subst (λ (x : RunState). HasCounts x r'.counts) (sym steps) counted;
    }

-- and so are its answers
pub goes_on : {T : Type 0} (t : TilesGhosts T) (r r' : Running T) (request : Request) (got : Gathered) (e : Event)
    (phase : Phase) (advanced : Advanced) → IsRun t r → IsGathered request (run_of t r) got e → phase ≡ r.phase
    → run_of t r' ≡ stepped (run_of t r) e r.keeper.heard → advanced.turn ≡ got.turn
    → advanced.speaks ≡ is_line_due r.keeper.tally.said (current_of phase) (got.after / 1000)
    → advanced.saves ≡ is_timely (run_of t r).machine e → GoesOn e (run_of t r) (run_of t r') advanced
goes_on t r r' request got e phase advanced is g same steps turn speaks saves =
    let said = r.keeper.tally.said in
    record {
      steps = steps;
      answers = turn ∙ g.turn;
      speaks = speaks
          ∙ ap (λ (q : Pass). is_line_due said (current_of q.phase) (got.after / 1000))
          (sym (stands_at t r phase is same).pass)
          ∙ ap (λ (n : ℕ). is_line_due said (current_of (pass_of (run_of t r).machine).phase) (n / 1000)) (sym g.after);
      saves = saves;
    }

-- room in the map, and a read, leave the run
pub map_stays : {T : Type 0} (t : TilesGhosts T) (r : Running T) (tiles : T) → t.statuses tiles ≡ t.statuses r.tiles
    → run_of t (record r { tiles = tiles }) ≡ run_of t r
map_stays t r tiles same =
    ap (λ (l : List Status). record (run_of t r) { machine = record (run_of t r).machine { map = l } }) same

-- a turn up to its marks, of a run that was the same before it read and after
pub advances : (request : Request) (got : Gathered) (advanced : Advanced) (r r1 r2 r3 : RunState) (o : Across)
    (X : Type 0) → r1 ≡ r → r2 ≡ r → Gathers request r1 got o
    → ((e : Event) → IsGathered request r2 got e → GoesOn e r2 r3 advanced × X) → Advances request advanced r r3 o × X
advances request got advanced r r1 r2 r3 o X before after gathers goes =
    let g : Gathers request r got o = subst (λ (q : RunState). Gathers request q got o) before gathers in
    let on : GoesOn g.event r r3 advanced × X
    = subst (λ (q : RunState). IsGathered request q got g.event → GoesOn g.event q r3 advanced × X) after (goes g.event)
    g.gathered in
    (record { event = g.event; is = g.is; goes = on.0; writes = g.writes }, on.1)

pub halts_same : (request : Request) (stop : Stop) (r r1 r2 : RunState) (o : Across) → r1 ≡ r → r2 ≡ r
    → Halted request stop r1 r1 o → Halted request stop r r2 o
halts_same request stop r r1 r2 o before after h =
    subst (λ (q : RunState). Halted request stop r q o) (sym after)
    (subst (λ (q : RunState). Halted request stop q q o) before h)

-- a buffer keeps its room
pub room_same : (len : ℕ) (new now items : List ℕ) → length now ≡ len → now ≡ items → length new ≡ length now
    → length (take len (new ++ drop (length new) items)) ≡ length items
room_same len new now items long is same =
    let all : length items ≡ len = ap (λ (l : List ℕ). length l) (sym is) ∙ long in
    let left : length (drop (length new) items) ≡ 0 = omega (arith, length-drop (length new) items, all) in
    let size : length (new ++ drop (length new) items) ≡ len
    = omega (arith, length-append new (drop (length new) items)) in
    length-take-le len (new ++ drop (length new) items) (omega arith) ∙ sym all
