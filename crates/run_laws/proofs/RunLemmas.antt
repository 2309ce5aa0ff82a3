-- An event of a run, between states in order.
use Rattle.std.proofs.Common.{◌≡◌, ℕ, ◌+◌, ◌≤◌, true, ◌&&◌, List, [], ◌∷◌, length, refl, ap, sym, ◌∙◌}
use Rattle.std.specs.List.{slice_get}
use Rattle.block_list.specs.declared.status.Status.{Status}
use Rattle.block_list.specs.Map.{Has}
use Rattle.faulty_source.specs.Ends.{is_before}
use Rattle.rescue_rules.specs.declared.tally.Tally.{Tally}
use Rattle.rescue_rules.specs.Setting.{Setting, IsSensible}
use Rattle.rescue_rules.specs.Passes.{taken}
use Rattle.rescue_rules.specs.Machine.{Machine, pass_of, is_live, IsRequest}
use Rattle.rescue_rules.specs.Step.{Event}
use Rattle.rescue_rules.specs.Moves.{ready, move_of, state_after, IsMove}
use Rattle.rescue_rules.specs.MachineLaws.{IsInOrder, StepsBy, AsksFor}
use Rattle.rescue_rules.proofs.OverLemmas.{live_was}
use Rattle.rescue_rules.proofs.ReadyLemmas.{order_ready, stays_ready}
use Rattle.rescue_rules.proofs.StatusLemmas.{wanted_taken}
use Rattle.rescue_rules.proofs.StepLemmas.{move_steps}
use Rattle.rescue_core.proofs.ChangeLemmas.{Change, changes}
use Rattle.run_laws.proofs.OrderLemmas.{AreOrdered}
use Rattle.run_laws.proofs.OwedLemmas.{ready_ordered}

-- a state whose mode fits, and whose passes follow one another
pub record MayRun (s : Setting) (m : Machine) : Type 0 where
  pub order : IsInOrder s m
  pub passes : AreOrdered m.passes

-- what an event of a run reads, and does
pub record Moves (s : Setting) (m : Machine) (e : Event) : Type 0 where
  pub request : IsRequest s (ready s m) e.reading.pos (e.reading.pos + e.reading.asked)
  pub few : length e.reading.given ≤ e.reading.asked
  pub steps : StepsBy s (ready s m) e
  pub before : MayRun s (ready s m)
  pub after : MayRun s (move_of s m e).after
  pub changes : (x : ℕ) → Change s (ready s m) e.reading (move_of s m e).after.map x

pub moves_by : (s : Setting) (m : Machine) (e : Event) → IsSensible s → MayRun s m → IsMove s (move_of s m e)
    → Moves s m e
moves_by s m e ok may is =
    let order : IsInOrder s (ready s m) = order_ready s m may.order in
    let by : StepsBy s (ready s m) e = move_steps s (ready s m) e ok order is.request is.few in
    record {
      request = is.request;
      few = is.few;
      steps = by;
      before = record { order = order; passes = ready_ordered s m may.passes };
      after = record { order = by.order; passes = ready_ordered s m may.passes };
      changes = λ x. changes s (ready s m) e x ok order is.request by;
    }

-- going on leaves the map
pub has_ready : (s : Setting) (m : Machine) (t : Status) (x : ℕ) → Has m.map t x → Has (ready s m).map t x
has_ready s m t x has = ap (λ (map : List Status). slice_get map x) (stays_ready s m).map ∙ has

pub has_unready : (s : Setting) (m : Machine) (t : Status) (x : ℕ) → Has (ready s m).map t x → Has m.map t x
has_unready s m t x has = sym (ap (λ (map : List Status). slice_get map x) (stays_ready s m).map) ∙ has

-- what was asked for had the phase's status
pub asked_taken : (s : Setting) (m : Machine) (e : Event) (x : ℕ) → Moves s m e → AsksFor e.reading x
    → Has (ready s m).map (taken (pass_of (ready s m)).phase) x
asked_taken s m e x by asks = wanted_taken s (ready s m) x (by.steps.wanted x asks.from asks.to)

-- what is left of the domain at a run's end was left at its start
live_unready : (s : Setting) (m : Machine) (x : ℕ) → is_live s (ready s m) x ≡ true → is_live s m x ≡ true
live_unready s m x live =
    sym (ap (λ (t : Tally). s.domain x && is_before t.over x) (stays_ready s m).tally) ∙ live

pub run_live : (s : Setting) (m : Machine) (es : List Event) (x : ℕ) → is_live s (state_after s m es) x ≡ true
    → is_live s m x ≡ true
run_live s m [] x live = live
run_live s m (e ∷ es) x live =
    let n : Machine = (move_of s m e).after in
    live_unready s m x (live_was s (ready s m) n e.reading x refl (run_live s n es x live))
