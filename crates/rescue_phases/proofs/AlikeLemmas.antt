-- States that are alike, and runs from them.
use Rattle.std.proofs.Common.{◌≡◌, Option, List, [], ◌∷◌, ◌++◌, All, refl, sym, ap, subst, ◌∙◌}
use Rattle.std.specs.List.{flat_map}
use Rattle.std.proofs.lemmas.Grind.{flat_map-append}
use Rattle.rescue_rules.specs.Setting.{Setting}
use Rattle.rescue_rules.specs.Machine.{Machine}
use Rattle.block_list.specs.declared.status.Status.{Status}
use Rattle.rescue_rules.specs.declared.stop.Limit.{Limit}
use Rattle.rescue_rules.specs.declared.tally.Tally.{Tally}
use Rattle.rescue_rules.specs.Step.{Event, limit_met, step}
use Rattle.rescue_rules.specs.Moves.{Move, begun, ready, moves, state_after, IsMove, IsRun}
use Rattle.rescue_rules.specs.RunCalls.{move_calls, run_calls}
use Rattle.rescue_rules.specs.Lines.{move_lines, run_lines}
use Rattle.rescue_rules.proofs.MoveLemmas.{moves_append, state_append, run_append}
use Rattle.rescue_rules.proofs.ReadyLemmas.{Stays, stays_ready, ready_on}
use Rattle.rescue_phases.specs.Turns.{IsAlike}
use Rattle.rescue_phases.specs.Laws.{AlikeGoAlike, NextPassIsAlike}

-- states that go on to the same one are alike
pub alike_by : (s : Setting) (m n : Machine) → ready s n ≡ ready s m → IsAlike s m n
alike_by s m n same =
    let a : Stays m (ready s m) = stays_ready s m in
    let b : Stays n (ready s n) = stays_ready s n in
    record {
      map = sym b.map ∙ ap (λ (k : Machine). k.map) same ∙ a.map;
      tally = sym b.tally ∙ ap (λ (k : Machine). k.tally) same ∙ a.tally;
      next = same;
    }

-- they have met the same limit
pub limit_alike : (s : Setting) (m n : Machine) → IsAlike s m n → limit_met s n ≡ limit_met s m
limit_alike s m n alike =
    let L : List Status → Tally → Option Limit = λ map tally. limit_met s (record m { map = map; tally = tally }) in
    ap (λ (v : List Status). L v n.tally) alike.map ∙ ap (L m.map) alike.tally

-- what an event makes of the state that is ready for it
abbrev moved : Setting → Event → Machine → Move
moved s e k = record { before = k; event = e; after = step s k e }

pub moves_alike : (s : Setting) (m n : Machine) (es : List Event) → ready s n ≡ ready s m → moves s n es ≡ moves s m es
moves_alike s m n [] same = refl
moves_alike s m n (e ∷ es) same = ap (λ (k : Machine). moved s e k ∷ moves s (moved s e k).after es) same

pub next_alike : (s : Setting) (m n : Machine) (es : List Event) → ready s n ≡ ready s m
    → ready s (state_after s n es) ≡ ready s (state_after s m es)
next_alike s m n [] same = same
next_alike s m n (e ∷ es) same = ap (λ (k : Machine). ready s (state_after s (moved s e k).after es)) same

pub run_alike : (s : Setting) (m n : Machine) (es : List Event) → ready s n ≡ ready s m → IsRun s m es → IsRun s n es
run_alike s m n es same run =
    record { each = subst (λ (vs : List Move). All (IsMove s) vs) (sym (moves_alike s m n es same)) run.each }

pub alike_go_alike : AlikeGoAlike
alike_go_alike s m n es alike = record {
  moves_are = moves_alike s m n es alike.next;
  run = run_alike s m n es alike.next;
  state = alike_by s (state_after s m es) (state_after s n es) (next_alike s m n es alike.next);
}

pub next_pass_is_alike : NextPassIsAlike
next_pass_is_alike s m c p ps off is = alike_by s m (begun s m p ps) (sym (ready_on s m c p ps off is))

-- a run, and one from a state alike to where it came to
pub record RunMore (s : Setting) (m n : Machine) (front back : List Event) : Type 0 where
  pub run : IsRun s m (front ++ back)
  pub state : IsAlike s (state_after s m (front ++ back)) (state_after s n back)
  pub calls : run_calls s m (front ++ back) ≡ run_calls s m front ++ run_calls s n back
  pub lines : run_lines s m (front ++ back) ≡ run_lines s m front ++ run_lines s n back

pub run_more : (s : Setting) (m n : Machine) (front back : List Event) → IsRun s m front → IsAlike s (state_after s m front) n
    → IsRun s n back → RunMore s m n front back
run_more s m n front back first alike rest =
    let k : Machine = state_after s m front in
    let all : moves s m (front ++ back) ≡ moves s m front ++ moves s n back =
    moves_append s m front back ∙ ap (λ (vs : List Move). moves s m front ++ vs) (sym (moves_alike s k n back alike.next)) in
    record {
      run = run_append s m front back first (run_alike s n k back (sym alike.next) rest);
      state = alike_by s (state_after s m (front ++ back)) (state_after s n back)
          (next_alike s k n back alike.next ∙ ap (ready s) (sym (state_append s m front back)));
      calls = ap (flat_map (move_calls s)) all ∙ flat_map-append (move_calls s) (moves s m front) (moves s n back);
      lines = ap (flat_map (move_lines s)) all ∙ flat_map-append (move_lines s) (moves s m front) (moves s n back);
    }

-- alike states, one after another
pub alike_on : (s : Setting) (k m n : Machine) → IsAlike s k m → IsAlike s m n → IsAlike s k n
alike_on s k m n a b = alike_by s k n (b.next ∙ a.next)
