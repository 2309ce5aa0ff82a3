-- What a run saves can be printed and read again.
use Rattle.std.proofs.Common.{◌≡◌, ℕ, zero, suc, ◌-◌, ◌^◌, ◌<◌, ◌≤◌, Bool, true, false, if◌then◌else◌, List, [], ◌∷◌, length, All, Some, refl, sym, ap, subst, arith}
use Rattle.std.specs.List.{slice_get}
use Rattle.std.proofs.lemmas.List.Elements.{All-append, All-nil, All-cons, All-head, All-tail}
use Rattle.std.proofs.lemmas.Option.{same_Some, none-some}
use Rattle.faulty_source.specs.Journal.{Reading}
use Rattle.rescue_rules.specs.declared.tally.Tally.{Tally}
use Rattle.rescue_rules.specs.Setting.{Setting, IsSensible}
use Rattle.rescue_rules.specs.Machine.{Machine}
use Rattle.rescue_rules.specs.Step.{Event}
use Rattle.rescue_rules.specs.Moves.{ready, move_of, has_ended, IsRun}
use Rattle.rescue_rules.specs.Events.{with_times}
use Rattle.rescue_rules.specs.Snapshots.{Snapshot, snapshot_of, finished_snapshot, is_due, last_snapshot, snapshots}
use Rattle.rescue_rules.specs.Laws.{AreTimes}
use Rattle.rescue_rules.specs.MachineLaws.{IsInOrder, StepsBy}
use Rattle.rescue_rules.proofs.MoveLemmas.{run_rest}
use Rattle.rescue_rules.proofs.ReadyLemmas.{stays_ready}
use Rattle.rescue_rules.proofs.FinishLemmas.{run_steps}
use Rattle.rescue_rules.proofs.FitLemmas.{Fits, ready_fits, step_fits}
use Rattle.rescue_rules.proofs.StandsLemmas.{IsPrintable}
use Rattle.rescue_rules.proofs.MoveStages.{due_first}

-- a snapshot that can be printed, of a map that reaches an end
pub record IsReadable (end : ℕ) (p : Snapshot) : Type 0 where
  pub long : end ≤ length p.map
  pub short : length p.map < 2 ^ 63
  pub shown : IsPrintable p.shown
  pub began : p.began < 2 ^ 64
  pub now : p.now < 2 ^ 64

-- the greatest position and the greatest pass that can be printed
abbrev far : ℕ
far = 2 ^ 63 - 1

abbrev top : ℕ
top = 2 ^ 32 - 1

-- a state whose snapshot can be
pub record IsTame (s : Setting) (end : ℕ) (m : Machine) : Type 0 where
  pub fits : Fits s far top m
  pub long : end ≤ length m.map
  pub began : m.tally.began < 2 ^ 64
  pub now : m.tally.now < 2 ^ 64

tame_readable : (s : Setting) (end : ℕ) (m : Machine) → IsTame s end m → IsReadable end (snapshot_of m)
tame_readable s end m h = record {
  long = h.long;
  short = omega (arith, h.fits.size);
  shown = record {
    pos = omega (arith, h.fits.shown_pos);
    some = h.fits.shown_some;
    pass = omega (arith, h.fits.shown_few);
  };
  began = h.began;
  now = h.now;
}

tame_finished : (s : Setting) (end : ℕ) (m : Machine) → IsTame s end m → IsReadable end (finished_snapshot m)
tame_finished s end m h = record {
  long = h.long;
  short = omega (arith, h.fits.size);
  shown = record { pos = omega (arith, h.fits.shown_pos); some = omega arith; pass = omega arith };
  began = h.began;
  now = h.now;
}

tame_either : (s : Setting) (end : ℕ) (m : Machine) (over : Bool) → IsTame s end m
    → IsReadable end (if over then finished_snapshot m else snapshot_of m)
tame_either s end m true h = tame_finished s end m h
tame_either s end m false h = tame_readable s end m h

-- an event with a reading that a clock can give
abbrev pub IsTimed : Event → Type 0
IsTimed e = e.after < 2 ^ 64

-- a move leads from such a state to another
tame_move : (s : Setting) (ok : IsSensible s) (end : ℕ) (m : Machine) (e : Event) (es : List Event) → IsInOrder s m
    → IsRun s m (e ∷ es) → IsTimed e → IsTame s end m → IsTame s end (move_of s m e).after
tame_move s ok end m e es order run timed h =
    let b : StepsBy s (ready s m) e = run_steps s ok m e es order run in
    let size : length (ready s m).map ≡ length m.map = ap length (stays_ready s m).map in
    record {
      fits = step_fits s far top (ready s m) e b (ready_fits s far top m h.fits);
      long = omega (arith, h.long, size, b.size);
      began = omega (arith, h.began, ap (λ (t : Tally). t.began) (stays_ready s m).tally);
      now = timed;
    }

if_all : (end : ℕ) (due : Bool) (p : Snapshot) → IsReadable end p → All (IsReadable end) (if due then p ∷ [] else [])
if_all end true p h = All-cons (IsReadable end) p [] h (All-nil (IsReadable end))
if_all end false p h = All-nil (IsReadable end)

-- so all that a run saves can be printed
pub all_readable : (s : Setting) (ok : IsSensible s) (end : ℕ) (m : Machine) (es : List Event) → IsInOrder s m → IsRun s m es
    → All IsTimed es → IsTame s end m → All (IsReadable end) (snapshots s m es)
all_readable s ok end m [] order run timed h =
    All-cons (IsReadable end) (last_snapshot s m) [] (tame_either s end m (has_ended s m) h) (All-nil (IsReadable end))
all_readable s ok end m (e ∷ es) order run timed h =
    let n : Machine = (move_of s m e).after in
    let b : StepsBy s (ready s m) e = run_steps s ok m e es order run in
    let next : IsTame s end n = tame_move s ok end m e es order run (All-head IsTimed e es timed) h in
    subst (λ (l : List Snapshot). All (IsReadable end) l) (sym (due_first s m e es (is_due s (move_of s m e)) refl))
    (All-append (IsReadable end) (if is_due s (move_of s m e) then snapshot_of n ∷ [] else []) (snapshots s n es)
    (if_all end (is_due s (move_of s m e)) (snapshot_of n) (tame_readable s end n next))
    (all_readable s ok end n es b.order (run_rest s m e es run) (All-tail IsTimed e es timed) next))

-- one of them
pub one_of : {A : Type 0} (P : A → Type 0) (xs : List A) (n : ℕ) (x : A) → All P xs → slice_get xs n ≡ Some x → P x
one_of P [] n x all is = absurd (none-some x is)
one_of P (y ∷ ys) zero x all is = subst P (same_Some y x is) (All-head P y ys all)
one_of P (y ∷ ys) (suc n) x all is = one_of P ys n x (All-tail P y ys all) is

-- events whose times a clock gave
pub events_timed : (reads : List Reading) (times : List ℕ) → AreTimes times → All IsTimed (with_times reads times)
events_timed [] times h = All-nil IsTimed
events_timed (r ∷ rs) [] h = All-nil IsTimed
events_timed (r ∷ rs) (before ∷ []) h = All-nil IsTimed
events_timed (r ∷ rs) (before ∷ after ∷ times) h =
    let rest : AreTimes (after ∷ times) = All-tail (λ (t : ℕ). t < 2 ^ 64) before (after ∷ times) h in
    All-cons IsTimed (record { reading = r; before = before; after = after }) (with_times rs times)
    (All-head (λ (t : ℕ). t < 2 ^ 64) after times rest)
    (events_timed rs times (All-tail (λ (t : ℕ). t < 2 ^ 64) after times rest))
