-- Runs in which reads give as much, whatever bytes, go the same way at whatever times, where no read is slow and there is
-- no limit.
use Rattle.std.proofs.Common.{◌≡◌, ℕ, ◌+◌, ◌-◌, ◌*◌, min, Bool, true, false, not, cond, ◌&&◌, ◌||◌, nat_eq, nat_le, nat_lt, ◌≤◌, is_none, List, [], ◌∷◌, length, drop, Some, None, if◌then◌else◌, refl, sym, ap, subst, ◌∙◌, arith}
use Rattle.std.proofs.lemmas.Bool.Decides.{nat_tests}
use Rattle.std.proofs.lemmas.Bool.{and_parts}
use Rattle.std.proofs.lemmas.List.Elements.{All-nil, All-cons}
use Rattle.run_options.specs.Limits.{no_limits}
use Rattle.block_list.specs.declared.status.Status.{Status}
use Rattle.block_list.specs.declared.status.Status.TheVariants.{Finished}
use Rattle.block_list.specs.Map.{marked}
use Rattle.faulty_source.specs.Journal.{Reading, floor}
use Rattle.mapfile_save.specs.MapNames.{names_in}
use Rattle.rescue_rules.specs.declared.stop.TrimMode.TheVariants.{Lead}
use Rattle.rescue_rules.specs.Setting.{Setting}
use Rattle.rescue_rules.specs.Passes.{Pass, is_up}
use Rattle.rescue_rules.specs.Beginning.{nothing_shown}
use Rattle.rescue_rules.specs.Machine.{Machine, pass_of, is_wanted, IsRequest, has_request}
use Rattle.rescue_rules.specs.Step.{Event, is_copying, is_trimming, is_slow, rest_status, scraped, earlier, mode_after, step, limit_met}
use Rattle.rescue_rules.specs.Moves.{begun, at_next, ready, move_of, moves, state_after, IsMove, IsRun, no_pass_left, has_ended}
use Rattle.rescue_rules.proofs.LimitLemmas.{none_met}
use Rattle.rescue_rules.proofs.MoveLemmas.{run_first, run_rest}

-- a setting without the names of files
abbrev pub plain : Setting → Setting
plain s = record s { infile = []; outfile = []; has_mapfile = false; names = names_in None; line = [] }

-- no read is slow, and there is no limit
pub record IsUnlimited (s : Setting) : Type 0 where
  pub rate : s.skips.min_rate ≡ 0
  pub limits : s.limits ≡ no_limits

-- a state without its times and counts, of which no request depends
abbrev pub quiet : Machine → Machine
quiet m = record m {
  tally = record m.tally {
    failed = 0;
    began = 0;
    now = 0;
    whole_at = 0;
    due_at = 0;
    shown = nothing_shown;
    written = 0;
    had_event = false;
    said = None;
    first_areas = 0;
  };
}

-- ---- requests

request_quiet : (s : Setting) (m : Machine) (p q : ℕ) → IsRequest s m p q → IsRequest (plain s) (quiet m) p q
request_quiet s m p q r = record { start = r.start; end = r.end; range = r.range; starts = r.starts; ends = r.ends }

request_loud : (s : Setting) (m : Machine) (p q : ℕ) → IsRequest (plain s) (quiet m) p q → IsRequest s m p q
request_loud s m p q r = record { start = r.start; end = r.end; range = r.range; starts = r.starts; ends = r.ends }

-- a choice of states, without their times
quiet_cond : (b : Bool) (m n : Machine) → quiet (cond b m n) ≡ cond b (quiet m) (quiet n)
quiet_cond true m n = refl
quiet_cond false m n = refl

quiet_next : (s : Setting) (m : Machine) (ps : List Pass) → quiet (at_next s m ps) ≡ at_next (plain s) (quiet m) ps
quiet_next s m [] = refl
quiet_next s m (p ∷ ps) =
    quiet_cond (has_request s (begun s m p ps)) (begun s m p ps) (at_next s m ps)
    ∙ ap (cond (has_request s (begun s m p ps)) (quiet (begun s m p ps))) (quiet_next s m ps)

pub quiet_ready : (s : Setting) (m : Machine) → quiet (ready s m) ≡ ready (plain s) (quiet m)
quiet_ready s m =
    quiet_cond (has_request s m) m (at_next s m (drop 1 m.passes))
    ∙ ap (cond (has_request s m) (quiet m)) (quiet_next s m (drop 1 m.passes))

-- ---- steps

-- the state after a read that gave this many bytes, which was slow or not
abbrev whole_by : (asked n : ℕ) → Bool
whole_by asked n = nat_eq n asked

abbrev failed_by : (asked n : ℕ) → (over : Bool) → Bool
failed_by asked n over = not (whole_by asked n || over)

abbrev kept_by : (sector pos asked n : ℕ) → (over : Bool) → ℕ
kept_by sector pos asked n over =
    if whole_by asked n then asked else if over then n else floor sector (pos + n) - pos

abbrev map_by : Setting → Machine → (pos asked n : ℕ) → (over : Bool) → List Status
map_by s m pos asked n over =
    let good : List Status = marked m.map pos (kept_by s.sector pos asked n over) Finished in
    let rest : ℕ = asked - kept_by s.sector pos asked n over in
    if failed_by asked n over
    then scraped m.progress.mode pos (marked good (pos + kept_by s.sector pos asked n over) rest (rest_status s m rest))
    else good

abbrev jump_by : Machine → (asked n : ℕ) → (over slow : Bool) → Bool
jump_by m asked n over slow = is_copying m
    && (if failed_by asked n over then nat_le (pass_of m).number 4 else slow && nat_le (pass_of m).number 2)

abbrev cursor_by : Setting → Machine → (pos asked n : ℕ) → (over slow : Bool) → ℕ
cursor_by s m pos asked n over slow =
    let jump : ℕ = if jump_by m asked n over slow then m.progress.skip else 0 in
    if is_trimming m then pos
    else if is_up s (pass_of m) then min (length m.map) (pos + (if over then n else asked) + jump)
    else pos - jump

abbrev after_by : Setting → Machine → (pos asked n : ℕ) → (over slow : Bool) → Machine
after_by s m pos asked n over slow =
    let marks : Machine = record m { map = map_by s m pos asked n over } in
    quiet (record marks {
      progress = record m.progress {
        cursor = cursor_by s m pos asked n over slow;
        mode = if is_trimming m
            then mode_after m.progress.mode (not (failed_by asked n over)) (is_wanted s marks (pos + asked)) pos (pos + asked)
            else Lead;
        skip = if jump_by m asked n over slow then min (2 * m.progress.skip) s.skips.most
            else if failed_by asked n over || slow then m.progress.skip else s.skips.first;
      };
      tally = record m.tally { over = if over then Some (earlier m.tally.over (pos + n)) else m.tally.over };
    })

-- a step is that
step_by : (s : Setting) (m : Machine) (e : Event)
    → quiet (step s m e) ≡ after_by s m e.reading.pos e.reading.asked (length e.reading.given) e.reading.ended (is_slow s e)
step_by s m e = refl

after_quiet : (s : Setting) (m : Machine) (pos asked n : ℕ) (over slow : Bool)
    → after_by (plain s) (quiet m) pos asked n over slow ≡ after_by s m pos asked n over slow
after_quiet s m pos asked n over slow = refl

below_none : (n k rate : ℕ) → rate ≡ 0 → nat_lt n (rate * k) ≡ false
below_none n k rate is =
    let zero_is : 0 * k ≡ 0 = omega arith in
    let none : rate * k ≡ 0 = ap (λ (r : ℕ). r * k) is ∙ zero_is in
    let le : rate * k ≤ n = omega (arith, none) in
    grind (arith, nat_tests, le)

and_false : (a b : Bool) → b ≡ false → (a && b) ≡ false
and_false true b is = is
and_false false b is = refl

slow_never : (s : Setting) (e : Event) → IsUnlimited s → is_slow s e ≡ false
slow_never s e u =
    and_false (nat_eq (length e.reading.given) e.reading.asked)
    (nat_lt (length e.reading.given * 1000) (s.skips.min_rate * (e.after - e.before)))
    (below_none (length e.reading.given * 1000) (e.after - e.before) s.skips.min_rate u.rate)

-- reads of one shape: they ask for the same, and got as much
pub record SameShape (r q : Reading) : Type 0 where
  pub pos : q.pos ≡ r.pos
  pub asked : q.asked ≡ r.asked
  pub given : length q.given ≡ length r.given
  pub ended : q.ended ≡ r.ended

-- events whose reads are of one shape, one by one
abbrev pub SameShapes : List Event → List Event → Type 0
SameShapes [] [] = Unit {0}
SameShapes [] (f ∷ fs) = ⊥
SameShapes (e ∷ es) [] = ⊥
SameShapes (e ∷ es) (f ∷ fs) = SameShape e.reading f.reading × SameShapes es fs

same_after : (s : Setting) (m : Machine) (pos pos' asked asked' n n' : ℕ) (over over' slow slow' : Bool) → pos' ≡ pos
    → asked' ≡ asked → n' ≡ n → over' ≡ over → slow' ≡ slow
    → after_by s m pos' asked' n' over' slow' ≡ after_by s m pos asked n over slow
same_after s m pos pos' asked asked' n n' over over' slow slow' p a g o w =
    ap (λ (x : ℕ). after_by s m x asked' n' over' slow') p
    ∙ ap (λ (x : ℕ). after_by s m pos x n' over' slow') a
    ∙ ap (λ (x : ℕ). after_by s m pos asked x over' slow') g
    ∙ ap (λ (x : Bool). after_by s m pos asked n x slow') o
    ∙ ap (λ (x : Bool). after_by s m pos asked n over x) w

-- States that differ in times and counts alone step alike. The one setting has names, the other may have none.
module _ (s : Setting) (u : IsUnlimited s) where
  step_alike : (m k : Machine) (e f : Event) → quiet k ≡ quiet m → SameShape e.reading f.reading
      → quiet (step (plain s) k f) ≡ quiet (step s m e)
  step_alike m k e f same shape =
      let v : IsUnlimited (plain s) = record { rate = u.rate; limits = u.limits } in
      let slow : is_slow (plain s) f ≡ is_slow s e = slow_never (plain s) f v ∙ sym (slow_never s e u) in
      step_by (plain s) k f
      ∙ sym (after_quiet (plain s) k f.reading.pos f.reading.asked (length f.reading.given) f.reading.ended
      (is_slow (plain s) f))
      ∙ ap (λ (x : Machine). after_by (plain s) x f.reading.pos f.reading.asked (length f.reading.given) f.reading.ended
      (is_slow (plain s) f)) same
      ∙ after_quiet s m f.reading.pos f.reading.asked (length f.reading.given) f.reading.ended (is_slow (plain s) f)
      ∙ same_after s m e.reading.pos f.reading.pos e.reading.asked f.reading.asked (length e.reading.given)
      (length f.reading.given) e.reading.ended f.reading.ended (is_slow s e) (is_slow (plain s) f) shape.pos shape.asked
      shape.given shape.ended slow
      ∙ sym (step_by s m e)

  pub ready_alike : (m k : Machine) → quiet k ≡ quiet m → quiet (ready (plain s) k) ≡ quiet (ready s m)
  ready_alike m k same =
      quiet_ready (plain s) k ∙ ap (ready (plain s)) same ∙ sym (quiet_ready s m)

  -- they have the same requests,
  pub request_alike : (m k : Machine) (p q : ℕ) → quiet k ≡ quiet m → IsRequest s m p q → IsRequest (plain s) k p q
  request_alike m k p q same r =
      request_loud (plain s) k p q
      (subst (λ (x : Machine). IsRequest (plain s) x p q) (sym same) (request_quiet s m p q r))

  -- events of the same shape are moves from both,
  move_alike : (m k : Machine) (e f : Event) → quiet k ≡ quiet m → SameShape e.reading f.reading
      → IsMove s (move_of s m e) → IsMove (plain s) (move_of (plain s) k f)
  move_alike m k e f same shape move =
      let at : quiet (ready (plain s) k) ≡ quiet (ready s m) = ready_alike m k same in
      let e' = e.reading in
      let f' = f.reading in
      record {
        request = subst (λ (p : ℕ). IsRequest (plain s) (ready (plain s) k) p (p + f'.asked)) (sym shape.pos)
            (subst (λ (n : ℕ). IsRequest (plain s) (ready (plain s) k) e'.pos (e'.pos + n)) (sym shape.asked)
            (request_alike (ready s m) (ready (plain s) k) e'.pos (e'.pos + e'.asked) at move.request));
        few = omega (arith, move.few, shape.given, shape.asked);
        within = none_met (plain s) (ready (plain s) k) u.limits;
      }

  -- and lead to states that differ in these alone
  pub after_alike : (m k : Machine) (e f : Event) → quiet k ≡ quiet m → SameShape e.reading f.reading
      → quiet (move_of (plain s) k f).after ≡ quiet (move_of s m e).after
  after_alike m k e f same shape =
      step_alike (ready s m) (ready (plain s) k) e f (ready_alike m k same) shape

  -- The same of a run, event by event.
  pub run_alike : (m k : Machine) (es fs : List Event) → quiet k ≡ quiet m → SameShapes es fs → IsRun s m es
      → IsRun (plain s) k fs
  run_alike m k [] [] same shapes run = record { each = All-nil (IsMove (plain s)) }
  run_alike m k [] (f ∷ fs) same shapes run = absurd shapes
  run_alike m k (e ∷ es) [] same shapes run = absurd shapes
  run_alike m k (e ∷ es) (f ∷ fs) same shapes run =
      let rest = run_alike (move_of s m e).after (move_of (plain s) k f).after es fs (after_alike m k e f same shapes.0)
      shapes.1 (run_rest s m e es run) in
      record {
        each = All-cons (IsMove (plain s)) (move_of (plain s) k f) (moves (plain s) (move_of (plain s) k f).after fs)
            (move_alike m k e f same shapes.0 (run_first s m e es run)) rest.each;
      }

  pub state_alike : (m k : Machine) (es fs : List Event) → quiet k ≡ quiet m → SameShapes es fs
      → quiet (state_after (plain s) k fs) ≡ quiet (state_after s m es)
  state_alike m k [] [] same shapes = same
  state_alike m k [] (f ∷ fs) same shapes = absurd shapes
  state_alike m k (e ∷ es) [] same shapes = absurd shapes
  state_alike m k (e ∷ es) (f ∷ fs) same shapes =
      state_alike (move_of s m e).after (move_of (plain s) k f).after es fs (after_alike m k e f same shapes.0) shapes.1

  -- no request is left in the one where none is in the other
  pub ended_alike : (m k : Machine) → quiet k ≡ quiet m → has_ended s m ≡ true → has_ended (plain s) k ≡ true
  ended_alike m k same over =
      let p = and_parts (no_pass_left (ready s m).passes) (is_none (limit_met s m)) over in
      let passes : (ready (plain s) k).passes ≡ (ready s m).passes =
      ap (λ (x : Machine). x.passes) (ready_alike m k same) in
      let left : no_pass_left (ready (plain s) k).passes ≡ true = ap no_pass_left passes ∙ p.0 in
      let none : limit_met (plain s) k ≡ None = none_met (plain s) k u.limits in
      rw left (ap is_none none)
