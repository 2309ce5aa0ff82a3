-- A position is asked at most once in copying.
use Rattle.std.proofs.Common.{◌≡◌, ◌⊎◌, ℕ, zero, suc, ◌+◌, ◌<◌, ◌≤◌, true, List, [], ◌∷◌, Some, refl, sym, ap, ◌∙◌, arith, subst, ⊎_elim}
use Rattle.std.specs.List.{slice_get}
use Rattle.std.proofs.lemmas.Option.{same_Some}
use Rattle.block_list.specs.declared.status.Status.{Status}
use Rattle.block_list.specs.declared.status.Status.TheVariants.{NonTried}
use Rattle.block_list.specs.Map.{Has}
use Rattle.faulty_source.specs.Ends.{is_before}
use Rattle.rescue_rules.specs.declared.phase.Phase.{Phase}
use Rattle.rescue_rules.specs.declared.phase.Phase.TheVariants.{Copying}
use Rattle.rescue_rules.specs.declared.stop.TrimMode.TheVariants.{Lead}
use Rattle.rescue_rules.specs.declared.tally.Tally.{Tally}
use Rattle.rescue_rules.specs.Setting.{Setting, IsSensible}
use Rattle.rescue_rules.specs.Passes.{taken}
use Rattle.rescue_rules.specs.Machine.{Machine, pass_of}
use Rattle.rescue_rules.specs.Step.{Event, trims, is_copying}
use Rattle.rescue_rules.specs.Moves.{Move, move_of, moves, ready, IsMove, IsRun}
use Rattle.rescue_rules.specs.MachineLaws.{IsInOrder, StepsBy, AsksFor}
use Rattle.rescue_rules.proofs.MoveLemmas.{run_first, run_rest}
use Rattle.rescue_rules.proofs.OverLemmas.{before_was, wanted_before}
use Rattle.rescue_rules.proofs.ReadyLemmas.{order_ready, stays_ready}
use Rattle.rescue_rules.proofs.StatusLemmas.{non_tried_stood, wanted_taken}
use Rattle.rescue_rules.proofs.StepLemmas.{move_steps}
use Rattle.rescue_core.proofs.StageLemmas.{copies_is}
use Rattle.rescue_phases.proofs.TriedLemmas.{untried}
use Rattle.run_laws.specs.Laws.{CopyingAsksOnce}

-- what an event of a run does, from the state that is ready for it
steps : (s : Setting) (m : Machine) (e : Event) → IsSensible s → IsInOrder s m → IsMove s (move_of s m e)
    → StepsBy s (ready s m) e
steps s m e ok order is = move_steps s (ready s m) e ok (order_ready s m order) is.request is.few

-- a position is non-tried, and before the input's end if that was met
record IsUntried (m : Machine) (x : ℕ) : Type 0 where
  status : Has m.map NonTried x
  before : is_before m.tally.over x ≡ true

-- copying asks for such positions alone
asked_non_tried : (s : Setting) (m : Machine) (e : Event) (x : ℕ) → StepsBy s (ready s m) e → is_copying (ready s m) ≡ true
    → AsksFor e.reading x → IsUntried m x
asked_non_tried s m e x by on asks =
    let phase : (pass_of (ready s m)).phase ≡ Copying = copies_is (pass_of (ready s m)).phase on in
    let has : Has (ready s m).map (taken (pass_of (ready s m)).phase) x =
    wanted_taken s (ready s m) x (by.wanted x asks.from asks.to) in
    record {
      status = subst (λ (map : List Status). Has map NonTried x) (stays_ready s m).map
          (subst (λ (p : Phase). Has (ready s m).map (taken p) x) phase has);
      before = subst (λ (t : Tally). is_before t.over x ≡ true) (stays_ready s m).tally
          (wanted_before s (ready s m) x (by.wanted x asks.from asks.to));
    }

-- and leaves none of them so
asked_tried : (s : Setting) (m : Machine) (e : Event) (x : ℕ) → IsInOrder s m → StepsBy s (ready s m) e → is_copying (ready s m) ≡ true
    → AsksFor e.reading x → IsUntried (move_of s m e).after x → ⊥
asked_tried s m e x order by on asks left =
    let phase : (pass_of (ready s m)).phase ≡ Copying = copies_is (pass_of (ready s m)).phase on in
    let lead : (ready s m).progress.mode ≡ Lead = (order_ready s m order).lead (ap trims phase) in
    let apart : Has (ready s m).map NonTried x × ((x < e.reading.pos) ⊎ (e.reading.pos + e.reading.asked ≤ x)) =
    untried s (ready s m) e.reading x lead by.there by.kept_asked left.before left.status in
    ⊎_elim (λ (low : x < e.reading.pos). omega (arith, low, asks.from))
    (λ (high : e.reading.pos + e.reading.asked ≤ x). omega (arith, high, asks.to)) apart.1

-- what isn't so stays that way
tried_stays : (s : Setting) (m : Machine) (e : Event) (x : ℕ) → (IsUntried m x → ⊥) → IsUntried (move_of s m e).after x → ⊥
tried_stays s m e x tried left =
    tried (record {
      status = subst (λ (map : List Status). Has map NonTried x) (stays_ready s m).map
          (non_tried_stood s (ready s m) e.reading x left.status);
      before = subst (λ (t : Tally). is_before t.over x ≡ true) (stays_ready s m).tally
          (before_was (ready s m) e.reading x left.before);
    })

-- so it is never asked for in copying
never_again : (s : Setting) (m : Machine) (es : List Event) (j x : ℕ) (w : Move) → IsSensible s → IsInOrder s m → IsRun s m es
    → (IsUntried m x → ⊥) → slice_get (moves s m es) j ≡ Some w → is_copying w.before ≡ true → AsksFor w.event.reading x → ⊥
never_again s m [] j x w ok order run tried is on asks = absurd (cc)
never_again s m (e ∷ es) zero x w ok order run tried is on asks =
    let same : move_of s m e ≡ w = same_Some (move_of s m e) w is in
    let here : is_copying (ready s m) ≡ true = ap (λ (v : Move). is_copying v.before) same ∙ on in
    let asks' : AsksFor e.reading x = subst (λ (v : Move). AsksFor v.event.reading x) (sym same) asks in
    tried (asked_non_tried s m e x (steps s m e ok order (run_first s m e es run)) here asks')
never_again s m (e ∷ es) (suc j) x w ok order run tried is on asks =
    let by : StepsBy s (ready s m) e = steps s m e ok order (run_first s m e es run) in
    never_again s (move_of s m e).after es j x w ok by.order (run_rest s m e es run)
    (λ left. tried_stays s m e x tried left) is on asks

-- a position that the first event asks for in copying is asked for by no later one
once_first : (s : Setting) (m : Machine) (e : Event) (es : List Event) (j x : ℕ) (v w : Move) → IsSensible s → IsInOrder s m
    → IsRun s m (e ∷ es) → move_of s m e ≡ v → slice_get (moves s (move_of s m e).after es) j ≡ Some w
    → is_copying v.before ≡ true → is_copying w.before ≡ true → AsksFor v.event.reading x → AsksFor w.event.reading x → ⊥
once_first s m e es j x v w ok order run same is on on' asks asks' =
    let by : StepsBy s (ready s m) e = steps s m e ok order (run_first s m e es run) in
    let here : is_copying (ready s m) ≡ true = ap (λ (u : Move). is_copying u.before) same ∙ on in
    let asked : AsksFor e.reading x = subst (λ (u : Move). AsksFor u.event.reading x) (sym same) asks in
    never_again s (move_of s m e).after es j x w ok by.order (run_rest s m e es run)
    (λ left. asked_tried s m e x order by here asked left) is on' asks'

pub copying_asks_once : CopyingAsksOnce
copying_asks_once s m [] i j x v w ok order run is is' on on' asks asks' = absurd (cc)
copying_asks_once s m (e ∷ es) zero zero x v w ok order run is is' on on' asks asks' = refl
copying_asks_once s m (e ∷ es) zero (suc j) x v w ok order run is is' on on' asks asks' =
    absurd (once_first s m e es j x v w ok order run (same_Some (move_of s m e) v is) is' on on' asks asks')
copying_asks_once s m (e ∷ es) (suc i) zero x v w ok order run is is' on on' asks asks' =
    absurd (once_first s m e es i x w v ok order run (same_Some (move_of s m e) w is') is on' on asks' asks)
copying_asks_once s m (e ∷ es) (suc i) (suc j) x v w ok order run is is' on on' asks asks' =
    let by : StepsBy s (ready s m) e = steps s m e ok order (run_first s m e es run) in
    ap suc (copying_asks_once s (move_of s m e).after es i j x v w ok by.order (run_rest s m e es run) is is' on on' asks asks')
