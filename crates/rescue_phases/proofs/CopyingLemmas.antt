-- A run between turns of copying stays so in a turn, and in its next pass.
use Rattle.std.proofs.Common.{◌≡◌, ◌⊎◌, ℕ, suc, ◌+◌, ◌-◌, ◌<◌, ◌≤◌, min, Bool, true, false, ◌&&◌, nat_le, nat_lt, if◌then◌else◌, List, ◌∷◌, ◌++◌, length, map, drop, Some, None, refl, sym, ap, ◌∙◌, arith, subst, ⊎_elim, get_or}
use Rattle.std.specs.List.{slice_get, slice_index_or, range_with_len}
use Rattle.std.proofs.lemmas.Bool.{cond-false, and_from, leb-true, ltb-true, le-leb, lt-ltb}
use Rattle.std.proofs.lemmas.List.Folds.{list_any_at}
use Rattle.std.proofs.lemmas.List.FromFn.{length-range_with_len, get_or-range_with_len}
use Rattle.block_list.specs.declared.status.Status.TheVariants.{NonTried}
use Rattle.block_list.specs.Map.{Has}
use Rattle.faulty_source.specs.Journal.{is_failed}
use Rattle.rescue_rules.specs.declared.phase.Phase.{Phase}
use Rattle.rescue_rules.specs.declared.phase.Phase.TheVariants.{Copying}
use Rattle.rescue_rules.specs.Setting.{Setting}
use Rattle.rescue_rules.specs.Passes.{Pass, taken, is_up, numbered, copying_passes, passes_after, passes_from}
use Rattle.rescue_rules.specs.Machine.{Machine, pass_of, start_of, has_taken, is_live, is_wanted, IsWanted, Search, search_in, search_of, IsNextRange, cut_start, cut_end, is_ahead, IsRequest, has_request}
use Rattle.rescue_rules.specs.Step.{Event, trims, is_copying, is_trimming, is_slow, is_jump, reach, cursor_after, limit_met, step}
use Rattle.rescue_rules.specs.MachineLaws.{StepsBy}
use Rattle.rescue_rules.proofs.OverLemmas.{live_was, wanted_live, wanted_before}
use Rattle.rescue_rules.proofs.ReadyLemmas.{order_lead}
use Rattle.rescue_rules.proofs.SearchLemmas.{wanted_within}
use Rattle.rescue_rules.proofs.StatusLemmas.{wanted_taken}
use Rattle.rescue_rules.proofs.StepLemmas.{move_steps}
use Rattle.rescue_core.proofs.PassLemmas.{next_passes, copying_leads}
use Rattle.rescue_core.specs.RunState.{RunState, setting_in, passed, IsGone}
use Rattle.rescue_core.specs.Turning.{stepped}
use Rattle.rescue_phases.specs.Copying.{LeavesNone, MayCopy}
use Rattle.rescue_phases.proofs.TopLemmas.{top_of, top_within, reach_few, takes_far, below_top}
use Rattle.rescue_phases.proofs.TriedLemmas.{untried}

-- the direction of a run's pass
abbrev pub is_upward : RunState → Bool
is_upward r = is_up (setting_in r) (pass_of r.machine)

pub pass_is : (r : RunState) → MayCopy r → pass_of r.machine ≡ numbered Copying r.pass
pass_is r c =
    ap (λ (ps : List Pass). slice_index_or ps 0 (numbered Copying 1)) c.passes ∙ copying_leads (setting_in r) r.pass c.few

untrimming : (r : RunState) → MayCopy r → is_trimming r.machine ≡ false
untrimming r c = ap (λ (p : Pass). trims p.phase) (pass_is r c)

-- how all phases but trimming find their requests: from the cursor on, in the pass's direction
abbrev pub searched : (up : Bool) → (cursor size : ℕ) → Search
searched up cursor size = record { up = up; from = cursor; front = up; size = size }

pub search_is : (s : Setting) (m : Machine) (number : ℕ) → pass_of m ≡ numbered Copying number
    → search_of s m ≡ searched (is_up s (pass_of m)) m.progress.cursor s.cluster
search_is s m number is = ap (λ (phase : Phase). search_in s m phase m.progress.mode) (ap (λ (p : Pass). p.phase) is)

-- a request takes the nearest positions ahead of a cursor for which P holds
pub record IsNearestUp (P : ℕ → Type 0) (cursor p q : ℕ) : Type 0 where
  pub ahead : cursor ≤ p
  pub least : (y : ℕ) → cursor ≤ y → P y → p ≤ y

pub record IsNearestDown (P : ℕ → Type 0) (cursor p q : ℕ) : Type 0 where
  pub ahead : q ≤ cursor
  pub greatest : (y : ℕ) → y < cursor → P y → y < q

abbrev pub IsNearest : Bool → (ℕ → Type 0) → (cursor p q : ℕ) → Type 0
IsNearest true P cursor p q = IsNearestUp P cursor p q
IsNearest false P cursor p q = IsNearestDown P cursor p q

abbrev pub IsFoundBy : Search → (ℕ → Type 0) → (sector start end p q : ℕ) → Type 0
IsFoundBy f P sector start end p q =
    IsNextRange f.up P f.from start end × (p ≡ cut_start f sector start end) × (q ≡ cut_end f sector start end)

pub nearest_by : (up : Bool) (P : ℕ → Type 0) (cursor size sector start end p q : ℕ)
    → IsFoundBy (searched up cursor size) P sector start end p q → IsNearest up P cursor p q
nearest_by true P cursor size sector start end p q found =
    let is : p ≡ start = found.1 in
    record {
      ahead = omega (arith, is, found.0.0.after);
      least = λ y from holds. omega (arith, is, found.0.0.least y from holds);
    }
nearest_by false P cursor size sector start end p q found =
    let is : q ≡ end = found.2 in
    record {
      ahead = omega (arith, is, found.0.0.below);
      greatest = λ y below holds. omega (arith, is, found.0.0.greatest y below holds);
    }

nearest : (r : RunState) (p q : ℕ) → MayCopy r → IsRequest (setting_in r) r.machine p q
    → IsNearest (is_upward r) (IsWanted (setting_in r) r.machine) r.machine.progress.cursor p q
nearest r p q c asks =
    let s : Setting = setting_in r in
    let P : ℕ → Type 0 = IsWanted s r.machine in
    nearest_by (is_upward r) P r.machine.progress.cursor s.cluster s.sector asks.start asks.end p q
    (subst (λ (f : Search). IsFoundBy f P s.sector asks.start asks.end p q) (search_is s r.machine r.pass (pass_is r c))
    (asks.range, asks.starts, asks.ends))

-- where a read from p that goes up to q puts the cursor, with a jump
abbrev pub cursor_by : Bool → (len p q jump : ℕ) → ℕ
cursor_by up len p q jump = if up then min len (q + jump) else p - jump

abbrev pub jump_of : Setting → Machine → Event → ℕ
jump_of s m e = if is_jump s m e then m.progress.skip else 0

cursor_is : (r : RunState) (e : Event) → MayCopy r → cursor_after (setting_in r) r.machine e
    ≡ cursor_by (is_upward r) (length r.machine.map) e.reading.pos (reach e.reading) (jump_of (setting_in r) r.machine e)
cursor_is r e c =
    cond-false (is_trimming r.machine) e.reading.pos
    (cursor_by (is_upward r) (length r.machine.map) e.reading.pos (reach e.reading) (jump_of (setting_in r) r.machine e))
    (untrimming r c)

-- how much of what is left of a map lies ahead of a cursor
abbrev pub ahead_by : Bool → (top cursor : ℕ) → ℕ
ahead_by true top cursor = top - cursor
ahead_by false top cursor = cursor

abbrev pub ahead_of : RunState → ℕ
ahead_of r = ahead_by (is_upward r) (top_of r.machine) r.machine.progress.cursor

-- A read takes the positions from p up to q, of those below a top, and reaches up to an end: it reaches over all that it
-- asked for, or the top is where it reached.
pub record Takes (p q reach top top' : ℕ) : Type 0 where
  pub some : p < q
  pub there : q ≤ top
  pub far : ((q ≤ reach) × (top' ≤ top)) ⊎ (top' ≤ reach)

pub less_by : (up : Bool) (P : ℕ → Type 0) (len top top' cursor p q reach jump new : ℕ) → IsNearest up P cursor p q
    → Takes p q reach top top' → top ≤ len → top' ≤ len → new ≡ cursor_by up len p reach jump
    → ahead_by up top' new < ahead_by up top cursor
less_by true P len top top' cursor p q reach jump new near t top_in top_in' is =
    let at : new ≡ min len (reach + jump) = is in
    ⊎_elim
    (λ (all : (q ≤ reach) × (top' ≤ top)). omega (arith, at, near.ahead, t.some, t.there, all.0, all.1, top_in))
    (λ (end : top' ≤ reach). omega (arith, at, near.ahead, t.some, t.there, end, top_in'))
    t.far
less_by false P len top top' cursor p q reach jump new near t top_in top_in' is =
    let at : new ≡ p - jump = is in omega (arith, at, near.ahead, t.some)

-- the last pass jumps over nothing
never_jumps : (copying failed slow : Bool) → (copying && (if failed then false else (slow && false))) ≡ false
never_jumps true true slow = refl
never_jumps true false true = refl
never_jumps true false false = refl
never_jumps false failed slow = refl

last_jump : (r : RunState) (e : Event) → MayCopy r → r.pass ≡ copying_passes → jump_of (setting_in r) r.machine e ≡ 0
last_jump r e c last =
    let s : Setting = setting_in r in
    let m : Machine = r.machine in
    let number : (pass_of m).number ≡ 5 = ap (λ (p : Pass). p.number) (pass_is r c) ∙ last in
    let J : ℕ → Bool = λ n. is_copying m && (if is_failed e.reading then nat_le n 4 else is_slow s e && nat_le n 2) in
    cond-false (is_jump s m e) m.progress.skip 0 (ap J number ∙ never_jumps (is_copying m) (is_failed e.reading) (is_slow s e))

pub takes_by : (s : Setting) (m : Machine) (e : Event) → StepsBy s m e
    → Takes e.reading.pos (e.reading.pos + e.reading.asked) (reach e.reading) (top_of m) (top_of (step s m e))
takes_by s m e by = record {
  some = omega (arith, by.some);
  there =
      let last : ℕ = e.reading.pos + e.reading.asked - 1 in
      let in_top : last < top_of m = below_top m last (omega (arith, by.some, by.there))
      (wanted_before s m last (by.wanted last (omega (arith, by.some)) (omega (arith, by.some)))) in
      omega (arith, in_top, by.some);
  far = takes_far m (step s m e) e.reading refl by.size;
}

-- what lay ahead of the cursor, and wasn't asked for, lies ahead still
abbrev pub lies_ahead : Bool → (cursor x : ℕ) → Bool
lies_ahead up cursor x = if up then nat_le cursor x else nat_lt x cursor

pub still_ahead : (up : Bool) (P : ℕ → Type 0) (len cursor p q reach new x : ℕ) → IsNearest up P cursor p q → reach ≤ q
    → new ≡ cursor_by up len p reach 0 → lies_ahead up cursor x ≡ true → P x → (x < p) ⊎ (q ≤ x) → lies_ahead up new x ≡ true
still_ahead true P len cursor p q reach new x near few is ahead holds apart =
    let at : new ≡ min len (reach + 0) = is in
    let from : p ≤ x = near.least x (leb-true cursor x ahead) holds in
    let far : q ≤ x = ⊎_elim (λ (low : x < p). absurd (omega (arith, low, from))) (λ (high : q ≤ x). high) apart in
    le-leb new x (omega (arith, at, far, few))
still_ahead false P len cursor p q reach new x near few is ahead holds apart =
    let at : new ≡ p - 0 = is in
    let to : x < q = near.greatest x (ltb-true x cursor ahead) holds in
    let low : x < p = ⊎_elim (λ (low : x < p). low) (λ (high : q ≤ x). absurd (omega (arith, high, to))) apart in
    lt-ltb x new (omega (arith, at, low))

-- copying's passes, from one of them on
pub first_of : (s : Setting) (number : ℕ) → number ≤ copying_passes
    → (ps : List Pass) × (passes_from s Copying number ≡ numbered Copying number ∷ ps)
first_of s number few =
    let some : 6 - number ≡ suc (5 - number) = omega (arith, few) in (
      map (numbered Copying) (range_with_len (number + 1) (5 - number)) ++ passes_after s Copying,
      ap (λ (n : ℕ). map (numbered Copying) (range_with_len number n) ++ passes_after s Copying) some,
    )

pub two_of : (s : Setting) (number : ℕ) → number < copying_passes
    → (ps : List Pass) × (passes_from s Copying number ≡ numbered Copying number ∷ numbered Copying (number + 1) ∷ ps)
two_of s number few =
    let some : 6 - number ≡ suc (suc (4 - number)) = omega (arith, few) in (
      map (numbered Copying) (range_with_len (number + 1 + 1) (4 - number)) ++ passes_after s Copying,
      ap (λ (n : ℕ). map (numbered Copying) (range_with_len number n) ++ passes_after s Copying) some,
    )

-- copying asks for the non-tried positions that are left of the domain, and for no others
pub wanted_here : (r : RunState) (x : ℕ) → MayCopy r → is_live (setting_in r) r.machine x ≡ true
    → Has r.machine.map NonTried x
    → is_wanted (setting_in r) r.machine x ≡ true
wanted_here r x c inside has =
    let first : (ps : List Pass) × (passes_from (setting_in r) Copying r.pass ≡ numbered Copying r.pass ∷ ps)
    = first_of (setting_in r) r.pass c.few in
    let takes : has_taken r.machine.passes (slice_get r.machine.map x) ≡ true =
    ap (λ (ps : List Pass). has_taken ps (slice_get r.machine.map x)) (c.passes ∙ first.1)
    ∙ ap (has_taken (numbered Copying r.pass ∷ first.0)) has in
    and_from (is_live (setting_in r) r.machine x) (has_taken r.machine.passes (slice_get r.machine.map x)) inside takes

non_tried_here : (s : Setting) (m : Machine) (number x : ℕ) → pass_of m ≡ numbered Copying number → is_wanted s m x ≡ true
    → Has m.map NonTried x
non_tried_here s m number x is wanted =
    subst (λ (p : Pass). Has m.map (taken p.phase) x) is (wanted_taken s m x wanted)

ahead_is : (s : Setting) (m : Machine) (number x : ℕ) → pass_of m ≡ numbered Copying number
    → is_ahead (search_of s m) x ≡ lies_ahead (is_up s (pass_of m)) m.progress.cursor x
ahead_is s m number x is = ap (λ (f : Search). is_ahead f x) (search_is s m number is)

-- after an event of its request the last pass has no position left that its cursor passed
leaves_none : (r : RunState) (e : Event) → MayCopy r → r.pass ≡ copying_passes
    → IsRequest (setting_in r) r.machine e.reading.pos (e.reading.pos + e.reading.asked) → StepsBy (setting_in r) r.machine e
    → length e.reading.given ≤ e.reading.asked → LeavesNone (setting_in r) (step (setting_in r) r.machine e)
leaves_none r e c last asks by few =
    let s : Setting = setting_in r in
    let m : Machine = r.machine in
    let n : Machine = step s m e in
    let p : ℕ = e.reading.pos in
    let q : ℕ = e.reading.pos + e.reading.asked in
    let P : ℕ → Type 0 = IsWanted s m in
    let here : pass_of m ≡ numbered Copying r.pass = pass_is r c in
    let cursor : n.progress.cursor ≡ cursor_by (is_upward r) (length m.map) p (reach e.reading) 0 =
    cursor_is r e c ∙ ap (cursor_by (is_upward r) (length m.map) p (reach e.reading)) (last_jump r e c last) in
    record {
      ahead = λ x wanted.
          let was : Has m.map NonTried x × ((x < p) ⊎ (q ≤ x)) =
          untried s m e.reading x c.lead by.there by.kept_asked (wanted_before s n x wanted) (non_tried_here s n r.pass x here wanted) in
          let live : is_live s m x ≡ true = live_was s m n e.reading x refl (wanted_live s n x wanted) in
          let before : is_wanted s m x ≡ true = wanted_here r x c live was.0 in
          let ahead : lies_ahead (is_upward r) m.progress.cursor x ≡ true =
          sym (ahead_is s m r.pass x here) ∙ (c.last last).ahead x before in
          ahead_is s n r.pass x here
          ∙ still_ahead (is_upward r) P (length m.map) m.progress.cursor p q (reach e.reading) n.progress.cursor x (nearest r p q c asks)
          (reach_few e.reading few) cursor ahead before was.1;
    }

-- An event of its request, and what it does.
pub record CopyStep (r : RunState) (e : Event) (heard : Bool) : Type 0 where
  pub steps : StepsBy (setting_in r) r.machine e
  pub less : ahead_of (stepped r e heard) < ahead_of r
  pub copying : MayCopy (stepped r e heard)

pub copy_steps : (r : RunState) (e : Event) (heard : Bool) → MayCopy r
    → IsRequest (setting_in r) r.machine e.reading.pos (e.reading.pos + e.reading.asked)
    → length e.reading.given ≤ e.reading.asked → limit_met (setting_in r) (stepped r e heard).machine ≡ None
    → CopyStep r e heard
copy_steps r e heard c asks few within =
    let s : Setting = setting_in r in
    let m : Machine = r.machine in
    let p : ℕ = e.reading.pos in
    let q : ℕ = e.reading.pos + e.reading.asked in
    let by : StepsBy s m e = move_steps s m e c.sensible (order_lead s m c.lead) asks few in
    record {
      steps = by;
      less = less_by (is_upward r) (IsWanted s m) (length m.map) (top_of m) (top_of (step s m e)) m.progress.cursor p q
          (reach e.reading) (jump_of s m e) (cursor_after s m e) (nearest r p q c asks) (takes_by s m e by)
          (top_within m) (omega (arith, top_within (step s m e), by.size)) (cursor_is r e c);
      copying = record {
        sensible = c.sensible;
        within = within;
        phase = c.phase;
        few = c.few;
        passes = c.passes;
        lead = by.order.lead (untrimming r c);
        last = λ last. leaves_none r e c last asks by few;
      };
    }

-- a wanted position ahead is a request
pub wanted_seen : (s : Setting) (m : Machine) (x : ℕ) → is_wanted s m x ≡ true → is_ahead (search_of s m) x ≡ true
    → has_request s m ≡ true
wanted_seen s m x wanted ahead =
    let P : ℕ → Bool = λ y. is_wanted s m y && is_ahead (search_of s m) y in
    let there : x < length m.map = wanted_within s m x wanted in
    let here : P x ≡ true = and_from (is_wanted s m x) (is_ahead (search_of s m) x) wanted ahead in
    let at : get_or (range_with_len 0 (length m.map)) x 0 ≡ x =
    get_or-range_with_len 0 (length m.map) x 0 there ∙ (let e : 0 + x ≡ x = omega arith in e) in
    list_any_at P (range_with_len 0 (length m.map)) x 0 (omega (arith, there, length-range_with_len 0 (length m.map))) (ap P at ∙ here)

-- where the last pass has no request left nothing is non-tried
pub none_left : (r : RunState) → MayCopy r → r.pass ≡ copying_passes → has_request (setting_in r) r.machine ≡ false
    → IsGone NonTried r
none_left r c last none x inside has =
    let s : Setting = setting_in r in
    let wanted : is_wanted s r.machine x ≡ true = wanted_here r x c inside has in
    let never : true ≡ false = sym (wanted_seen s r.machine x wanted ((c.last last).ahead x wanted)) ∙ none in
    cc

-- a pass at its start has no position left that its cursor passed
pub start_ahead : (up : Bool) (len x : ℕ) → x < len → lies_ahead up (if up then 0 else len) x ≡ true
start_ahead true len x lt = le-leb 0 x (omega arith)
start_ahead false len x lt = lt-ltb x len lt

pub leaves_at_start : (s : Setting) (m : Machine) (number : ℕ) → pass_of m ≡ numbered Copying number
    → m.progress.cursor ≡ start_of s (numbered Copying number) m.map → LeavesNone s m
leaves_at_start s m number is begins = record {
  ahead = λ x wanted.
      let up : Bool = is_up s (pass_of m) in
      ahead_is s m number x is
      ∙ ap (λ (n : ℕ). lies_ahead up n x)
      (begins ∙ ap (λ (p : Pass). start_of s p m.map) (sym is))
      ∙ start_ahead up (length m.map) x (wanted_within s m x wanted);
}

-- the next pass
pub second_is : (r : RunState) → MayCopy r → r.pass < copying_passes
    → slice_get r.machine.passes 1 ≡ Some (numbered Copying (r.pass + 1))
second_is r c few =
    ap (λ (ps : List Pass). slice_get ps 1) (c.passes ∙ (two_of (setting_in r) r.pass few).1)

pub copying_passed : (r : RunState) → MayCopy r → r.pass < copying_passes → MayCopy (passed r Copying (r.pass + 1))
copying_passed r c few =
    let s : Setting = setting_in r in
    let p : Pass = numbered Copying (r.pass + 1) in
    let n : RunState = passed r Copying (r.pass + 1) in
    let second : slice_get (passes_from s Copying r.pass) 1 ≡ Some p =
    ap (λ (ps : List Pass). slice_get ps 1) (two_of s r.pass few).1 in
    record {
      sensible = c.sensible;
      within = c.within;
      phase = refl;
      few = omega (arith, few);
      passes = ap (λ (ps : List Pass). p ∷ drop 2 ps) c.passes ∙ sym (next_passes s Copying r.pass p second);
      lead = refl;
      last = λ last. leaves_at_start s n.machine (r.pass + 1) refl refl;
    }
