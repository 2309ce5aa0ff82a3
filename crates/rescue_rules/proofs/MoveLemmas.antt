-- A run that goes on.
use Rattle.std.proofs.Common.{◌≡◌, List, [], ◌∷◌, ◌++◌, All, refl, sym, ap, subst}
use Rattle.std.proofs.lemmas.List.{map-append}
use Rattle.std.proofs.lemmas.List.Elements.{All-append, All-nil, All-cons, All-head, All-tail, All-same}
use Rattle.rescue_rules.specs.Setting.{Setting}
use Rattle.rescue_rules.specs.Machine.{Machine}
use Rattle.rescue_rules.specs.Step.{Event}
use Rattle.rescue_rules.specs.Moves.{Move, move_of, moves, state_after, IsMove, IsRun}
use Rattle.rescue_rules.specs.Events.{reads_of}
use Rattle.rescue_rules.specs.MachineLaws.{GoesOnBy}

pub moves_more : (s : Setting) (m : Machine) (es : List Event) (e : Event)
    → moves s m (es ++ e ∷ []) ≡ moves s m es ++ move_of s (state_after s m es) e ∷ []
moves_more s m [] e = refl
moves_more s m (x ∷ es) e = ap (λ vs. move_of s m x ∷ vs) (moves_more s (move_of s m x).after es e)

pub state_more : (s : Setting) (m : Machine) (es : List Event) (e : Event)
    → state_after s m (es ++ e ∷ []) ≡ (move_of s (state_after s m es) e).after
state_more s m [] e = refl
state_more s m (x ∷ es) e = state_more s (move_of s m x).after es e

all_one : {X : Type 0} (P : X → Type 0) (x : X) → P x → All P (x ∷ [])
all_one P x p = All-cons P x [] p (All-nil P)

pub goes_on : (s : Setting) (m : Machine) (es : List Event) (e : Event) → IsRun s m es
    → IsMove s (move_of s (state_after s m es) e) → GoesOnBy s m es e
goes_on s m es e run one =
    let v : Move = move_of s (state_after s m es) e in
    record {
      run = record {
        each = subst (λ vs. All (IsMove s) vs) (sym (moves_more s m es e))
            (All-append (IsMove s) (moves s m es) (v ∷ []) run.each (all_one (IsMove s) v one));
      };
      moves_are = moves_more s m es e;
      state = state_more s m es e;
    }

-- the parts of a run
pub moves_append : (s : Setting) (m : Machine) (front back : List Event)
    → moves s m (front ++ back) ≡ moves s m front ++ moves s (state_after s m front) back
moves_append s m [] back = refl
moves_append s m (e ∷ front) back = ap (λ vs. move_of s m e ∷ vs) (moves_append s (move_of s m e).after front back)

pub state_append : (s : Setting) (m : Machine) (front back : List Event)
    → state_after s m (front ++ back) ≡ state_after s (state_after s m front) back
state_append s m [] back = refl
state_append s m (e ∷ front) back = state_append s (move_of s m e).after front back

pub reads_append : (front back : List Event) → reads_of (front ++ back) ≡ reads_of front ++ reads_of back
reads_append front back = map-append (λ e. e.reading) front back

-- an event of a run, and those after it
pub run_first : (s : Setting) (m : Machine) (e : Event) (es : List Event) → IsRun s m (e ∷ es) → IsMove s (move_of s m e)
run_first s m e es run = All-head (IsMove s) (move_of s m e) (moves s (move_of s m e).after es) run.each

pub run_rest : (s : Setting) (m : Machine) (e : Event) (es : List Event) → IsRun s m (e ∷ es)
    → IsRun s (move_of s m e).after es
run_rest s m e es run =
    record { each = All-tail (IsMove s) (move_of s m e) (moves s (move_of s m e).after es) run.each }

-- a run from where another came to goes on from that one
pub run_append : (s : Setting) (m : Machine) (front back : List Event) → IsRun s m front
    → IsRun s (state_after s m front) back → IsRun s m (front ++ back)
run_append s m front back first rest = record {
  each = All-same (IsMove s) (moves s m (front ++ back)) (moves s m front ++ moves s (state_after s m front) back)
      (moves_append s m front back)
      (All-append (IsMove s) (moves s m front) (moves s (state_after s m front) back) first.each rest.each);
}
