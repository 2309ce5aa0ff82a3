-- The saves of a run, move by move.
use Rattle.std.proofs.Common.{◌≡◌, Bool, true, false, if◌then◌else◌, List, [], ◌∷◌, ◌++◌, map, filter, ap}
use Rattle.rescue_rules.specs.Setting.{Setting}
use Rattle.rescue_rules.specs.Machine.{Machine}
use Rattle.rescue_rules.specs.Step.{Event}
use Rattle.rescue_rules.specs.Moves.{Move, move_of, moves, state_after}
use Rattle.rescue_rules.specs.Snapshots.{snapshot_of, is_due, last_snapshot, snapshots}

filter_step : (p : Move → Bool) (v : Move) (vs : List Move) (due : Bool) → p v ≡ due
    → filter p (v ∷ vs) ≡ (if due then v ∷ filter p vs else filter p vs)
filter_step p v vs due is = ap (λ (b : Bool). if b then v ∷ filter p vs else filter p vs) is

filter_due : (s : Setting) (m : Machine) (e : Event) (es : List Event) → is_due s (move_of s m e) ≡ true
    → snapshots s m (e ∷ es) ≡ snapshot_of (move_of s m e).after ∷ snapshots s (move_of s m e).after es
filter_due s m e es is =
    ap (λ (vs : List Move). map (λ v. snapshot_of v.after) vs ++ last_snapshot s (state_after s (move_of s m e).after es) ∷ [])
    (filter_step (is_due s) (move_of s m e) (moves s (move_of s m e).after es) true is)

filter_undue : (s : Setting) (m : Machine) (e : Event) (es : List Event) → is_due s (move_of s m e) ≡ false
    → snapshots s m (e ∷ es) ≡ snapshots s (move_of s m e).after es
filter_undue s m e es is =
    ap (λ (vs : List Move). map (λ v. snapshot_of v.after) vs ++ last_snapshot s (state_after s (move_of s m e).after es) ∷ [])
    (filter_step (is_due s) (move_of s m e) (moves s (move_of s m e).after es) false is)

-- where a save is due it is the first of those that are left
pub due_first : (s : Setting) (m : Machine) (e : Event) (es : List Event) (due : Bool) → is_due s (move_of s m e) ≡ due
    → snapshots s m (e ∷ es)
    ≡ (if due then snapshot_of (move_of s m e).after ∷ [] else []) ++ snapshots s (move_of s m e).after es
due_first s m e es true is = filter_due s m e es is
due_first s m e es false is = filter_undue s m e es is
