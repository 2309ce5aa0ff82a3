-- What a pass has left: the positions that its cursor hasn't come past.
use Rattle.std.proofs.Common.{◌≡◌, ◌⊎◌, ℕ, ◌+◌, ◌-◌, ◌<◌, ◌≤◌, min, Bool, true, false, ◌&&◌, nat_le, if◌then◌else◌, List, length, refl, sym, ap, subst, ◌∙◌, arith, inl, inr, ⊎_elim}
use Rattle.std.proofs.lemmas.Bool.{cases_lt, cases_Bool, cond-false, le-leb, lt-leb, lt-ltb}
use Rattle.faulty_source.specs.Ends.{is_before}
use Rattle.faulty_source.specs.Journal.{is_failed}
use Rattle.rescue_rules.specs.declared.stop.TrimMode.{TrimMode}
use Rattle.rescue_rules.specs.declared.stop.TrimMode.TheVariants.{Lead, Tail}
use Rattle.rescue_rules.specs.declared.phase.Phase.{Phase}
use Rattle.rescue_rules.specs.declared.phase.Phase.TheVariants.{Copying, Trimming, Scraping, Retrying}
use Rattle.rescue_rules.specs.Setting.{Setting}
use Rattle.rescue_rules.specs.Passes.{Pass, is_up}
use Rattle.rescue_rules.specs.Machine.{Machine, pass_of, IsWanted, Search, search_in, search_of, is_ahead, IsRequest, has_request}
use Rattle.rescue_rules.specs.Step.{Event, copies, trims, is_trimming, is_slow, is_jump, reach, over_after, cursor_after, step}
use Rattle.rescue_rules.specs.Moves.{begun}
use Rattle.rescue_rules.specs.MachineLaws.{IsInOrder, StepsBy, AsksFor}
use Rattle.rescue_rules.proofs.OverLemmas.{before_was, wanted_before}
use Rattle.rescue_rules.proofs.SearchLemmas.{wanted_within}
use Rattle.rescue_rules.proofs.StepLemmas.{trims_is}
use Rattle.rescue_phases.proofs.TopLemmas.{reach_few, reach_some, before_reach}
use Rattle.rescue_phases.proofs.CopyingLemmas.{wanted_seen, IsFoundBy, cursor_by, jump_of}

-- a position lies ahead of a cursor, upwards or downwards
abbrev pub LiesAhead : (up : Bool) → (cursor x : ℕ) → Type 0
LiesAhead true cursor x = cursor ≤ x
LiesAhead false cursor x = x < cursor

-- Trimming goes back to its pass's start, so that it leaves each position; any other phase leaves what lies ahead; and
-- neither anything past the input's end.
pub record IsLeft (s : Setting) (m : Machine) (x : ℕ) : Type 0 where
  pub before : is_before m.tally.over x ≡ true
  pub ahead : is_trimming m ≡ false → LiesAhead (is_up s (pass_of m)) m.progress.cursor x

-- all but trimming search from the cursor on, in the pass's direction
abbrev size_of : Setting → Phase → ℕ
size_of s Copying = s.cluster
size_of s Trimming = s.sector
size_of s Scraping = s.sector
size_of s Retrying = s.sector

abbrev from_cursor : (up : Bool) → (cursor size : ℕ) → Search
from_cursor up cursor size = record { up = up; from = cursor; front = up; size = size }

search_is : (s : Setting) (m : Machine) (phase : Phase) (mode : TrimMode) → trims phase ≡ false
    → search_in s m phase mode ≡ from_cursor (is_up s (pass_of m)) m.progress.cursor (size_of s phase)
search_is s m Trimming mode off = absurd (cc)
search_is s m _ mode off = refl

-- a request takes the nearest positions ahead for which P holds
record IsNearest (up : Bool) (P : ℕ → Type 0) (cursor p q : ℕ) : Type 0 where
  inside : (x : ℕ) → p ≤ x → x < q → LiesAhead up cursor x
  beyond : (x : ℕ) → P x → LiesAhead up cursor x → (x < p) ⊎ (q ≤ x) → LiesAhead up (if up then q else p) x

nearest_by : (up : Bool) (P : ℕ → Type 0) (sector cursor size start end p q : ℕ)
    → IsFoundBy (from_cursor up cursor size) P sector start end p q → IsNearest up P cursor p q
nearest_by true P sector cursor size start end p q found =
    let is : p ≡ start = found.1 in
    record {
      inside = λ x from to. omega (arith, is, from, found.0.0.after);
      beyond = λ x holds ahead apart.
          let least : start ≤ x = found.0.0.least x ahead holds in
          ⊎_elim (λ (low : x < p). absurd (omega (arith, low, is, least))) (λ (high : q ≤ x). high) apart;
    }
nearest_by false P sector cursor size start end p q found =
    let is : q ≡ end = found.2 in
    record {
      inside = λ x from to. omega (arith, is, to, found.0.0.below);
      beyond = λ x holds ahead apart.
          let greatest : x < end = found.0.0.greatest x ahead holds in
          ⊎_elim (λ (low : x < p). low) (λ (high : q ≤ x). absurd (omega (arith, high, is, greatest))) apart;
    }

nearest : (s : Setting) (m : Machine) (p q : ℕ) → is_trimming m ≡ false → IsRequest s m p q
    → IsNearest (is_up s (pass_of m)) (IsWanted s m) m.progress.cursor p q
nearest s m p q off asks =
    let P : ℕ → Type 0 = IsWanted s m in
    nearest_by (is_up s (pass_of m)) P s.sector m.progress.cursor (size_of s (pass_of m).phase) asks.start asks.end p q
    (subst (λ (f : Search). IsFoundBy f P s.sector asks.start asks.end p q) (search_is s m (pass_of m).phase m.progress.mode off)
    (asks.range, asks.starts, asks.ends))

cursor_is : (s : Setting) (m : Machine) (e : Event) → is_trimming m ≡ false
    → cursor_after s m e ≡ cursor_by (is_up s (pass_of m)) (length m.map) e.reading.pos
    (reach e.reading) (jump_of s m e)
cursor_is s m e off =
    cond-false (is_trimming m) e.reading.pos
    (cursor_by (is_up s (pass_of m)) (length m.map) e.reading.pos (reach e.reading) (jump_of s m e)) off

-- the cursor goes on, past what was read, and without a jump no further than what was asked for
goes_on_by : (up : Bool) (len cursor p reached jump x : ℕ) → p ≤ reached → p ≤ len → LiesAhead up cursor p
    → LiesAhead up (cursor_by up len p reached jump) x → LiesAhead up cursor x
goes_on_by true len cursor p reached jump x some there at ahead =
    let beyond : min len (reached + jump) ≤ x = ahead in omega (arith, beyond, at, some, there)
goes_on_by false len cursor p reached jump x some there at ahead =
    let beyond : x < p - jump = ahead in omega (arith, beyond, at)

goes_past_by : (up : Bool) (len p reached jump x : ℕ) → x < len → p ≤ x → x < reached
    → LiesAhead up (cursor_by up len p reached jump) x → ⊥
goes_past_by true len p reached jump x there from to ahead =
    let beyond : min len (reached + jump) ≤ x = ahead in omega (arith, beyond, to, there)
goes_past_by false len p reached jump x there from to ahead =
    let beyond : x < p - jump = ahead in omega (arith, beyond, from)

goes_to_by : (up : Bool) (len p q reached x : ℕ) → reached ≤ q → LiesAhead up (if up then q else p) x
    → LiesAhead up (cursor_by up len p reached 0) x
goes_to_by true len p q reached x few ahead =
    let beyond : q ≤ x = ahead in (let e : min len (reached + 0) ≤ x = omega arith in e)
goes_to_by false len p q reached x few ahead =
    let beyond : x < p = ahead in (let e : x < p - 0 = omega arith in e)

-- What was asked for was left, and isn't any more; and nothing is left that wasn't.
pub asked_left : (s : Setting) (m : Machine) (e : Event) (x : ℕ)
    → IsRequest s m e.reading.pos (e.reading.pos + e.reading.asked) → StepsBy s m e → AsksFor e.reading x → IsLeft s m x
asked_left s m e x request by asks = record {
  before = wanted_before s m x (by.wanted x asks.from asks.to);
  ahead = λ off. (nearest s m e.reading.pos (e.reading.pos + e.reading.asked) off request).inside x asks.from asks.to;
}

pub asked_past : (s : Setting) (m : Machine) (e : Event) (x : ℕ) → is_trimming m ≡ false → StepsBy s m e
    → AsksFor e.reading x → IsLeft s (step s m e) x → ⊥
asked_past s m e x off by asks left =
    let up : Bool = is_up s (pass_of m) in
    goes_past_by up (length m.map) e.reading.pos (reach e.reading) (jump_of s m e) x (omega (arith, by.there, asks.to))
    asks.from (before_reach m e.reading x left.before asks.to)
    (subst (λ (n : ℕ). LiesAhead up n x) (cursor_is s m e off) (left.ahead off))

pub left_before : (s : Setting) (m : Machine) (e : Event) (x : ℕ)
    → IsRequest s m e.reading.pos (e.reading.pos + e.reading.asked) → StepsBy s m e → IsLeft s (step s m e) x
    → IsLeft s m x
left_before s m e x request by left =
    let p : ℕ = e.reading.pos in
    let q : ℕ = e.reading.pos + e.reading.asked in
    let up : Bool = is_up s (pass_of m) in
    record {
      before = before_was m e.reading x left.before;
      ahead = λ off.
          let at : LiesAhead up m.progress.cursor p = (nearest s m p q off request).inside p (omega arith)
          (omega (arith, by.some)) in
          goes_on_by up (length m.map) m.progress.cursor p (reach e.reading) (jump_of s m e) x (reach_some e.reading)
          (omega (arith, by.there)) at
          (subst (λ (n : ℕ). LiesAhead up n x) (cursor_is s m e off) (left.ahead off));
    }

-- a pass that never jumps: of copying the last alone
pub record JumpsNever (p : Pass) : Type 0 where
  pub last : p.phase ≡ Copying → 4 < p.number

no_jump : (phase : Phase) (number : ℕ) (failed slow : Bool) → (phase ≡ Copying → 4 < number)
    → (copies phase && (if failed then nat_le number 4 else (slow && nat_le number 2))) ≡ false
no_jump Copying number false true last = let n : 4 < number = last refl in lt-leb number 2 (omega arith)
no_jump Copying number false false last = refl
no_jump Copying number true slow last = lt-leb number 4 (last refl)
no_jump _ number failed slow last = refl

jump_none : (s : Setting) (m : Machine) (e : Event) → JumpsNever (pass_of m) → jump_of s m e ≡ 0
jump_none s m e never =
    cond-false (is_jump s m e) m.progress.skip 0
    (no_jump (pass_of m).phase (pass_of m).number (is_failed e.reading) (is_slow s e) never.last)

-- it leaves what it wants and didn't ask for
pub left_on : (s : Setting) (m : Machine) (e : Event) (x : ℕ) → JumpsNever (pass_of m)
    → IsRequest s m e.reading.pos (e.reading.pos + e.reading.asked) → length e.reading.given ≤ e.reading.asked
    → IsWanted s m x → is_before (over_after m e.reading) x ≡ true → (AsksFor e.reading x → ⊥)
    → IsLeft s m x → IsLeft s (step s m e) x
left_on s m e x never request few wanted before apart left =
    let p : ℕ = e.reading.pos in
    let q : ℕ = e.reading.pos + e.reading.asked in
    let up : Bool = is_up s (pass_of m) in
    let away : (x < p) ⊎ (q ≤ x) =
    ⊎_elim (λ (low : x < p). inl low)
    (λ (from : p ≤ x). ⊎_elim (λ (to : x < q). absurd (apart (record { from = from; to = to })))
    (λ (high : q ≤ x). inr high)
    (cases_lt x q))
    (cases_lt x p) in
    record {
      before = before;
      ahead = λ off.
          let beyond : LiesAhead up (if up then q else p) x =
          (nearest s m p q off request).beyond x wanted (left.ahead off) away in
          subst (λ (n : ℕ). LiesAhead up n x)
          (sym (cursor_is s m e off ∙ ap (cursor_by up (length m.map) p (reach e.reading)) (jump_none s m e never)))
          (goes_to_by up (length m.map) p q (reach e.reading) x (reach_few e.reading few) beyond);
    }

-- at its start a pass has left each position
pub start_by : (up : Bool) (len x : ℕ) → x < len → LiesAhead up (if up then 0 else len) x
start_by true len x within = (let e : 0 ≤ x = omega arith in e)
start_by false len x within = within

pub left_begun : (s : Setting) (m : Machine) (p : Pass) (ps : List Pass) (x : ℕ) → x < length m.map
    → is_before m.tally.over x ≡ true → IsLeft s (begun s m p ps) x
left_begun s m p ps x within before =
    record { before = before; ahead = λ off. start_by (is_up s p) (length m.map) x within }

ahead_by : (up : Bool) (cursor size x : ℕ) → LiesAhead up cursor x → is_ahead (from_cursor up cursor size) x ≡ true
ahead_by true cursor size x ahead = le-leb cursor x ahead
ahead_by false cursor size x ahead = lt-ltb x cursor ahead

-- so is one that trimming wants, wherever it lies
trimming_seen : (s : Setting) (m : Machine) (x : ℕ) (mode : TrimMode) → IsInOrder s m → is_trimming m ≡ true
    → m.progress.mode ≡ mode → IsWanted s m x → has_request s m ≡ true
trimming_seen s m x Lead order on is wanted =
    let up : Bool = is_up s (pass_of m) in
    let at : search_of s m ≡ search_in s m Trimming Lead =
    ap (λ (phase : Phase). search_in s m phase m.progress.mode) (trims_is (pass_of m).phase on)
    ∙ ap (search_in s m Trimming) is in
    wanted_seen s m x wanted (ap (λ (f : Search). is_ahead f x) at
    ∙ ahead_by up (if up then 0 else length m.map) s.sector x
    (start_by up (length m.map) x (wanted_within s m x wanted)))
trimming_seen s m x (Tail low) order on is wanted =
    let at : search_of s m ≡ search_in s m Trimming (Tail low) =
    ap (λ (phase : Phase). search_in s m phase m.progress.mode) (trims_is (pass_of m).phase on)
    ∙ ap (search_in s m Trimming) is in
    wanted_seen s m low (order.tail low is) (ap (λ (f : Search). is_ahead f low) at ∙ le-leb low low (omega arith))

-- a position that a pass wants and has left is a request
pub left_seen : (s : Setting) (m : Machine) (x : ℕ) → IsInOrder s m → IsWanted s m x → IsLeft s m x
    → has_request s m ≡ true
left_seen s m x order wanted left =
    ⊎_elim (λ (on : is_trimming m ≡ true). trimming_seen s m x m.progress.mode order on refl wanted)
    (λ (off : is_trimming m ≡ false).
    wanted_seen s m x wanted (ap (λ (f : Search). is_ahead f x) (search_is s m (pass_of m).phase m.progress.mode off)
    ∙ ahead_by (is_up s (pass_of m)) m.progress.cursor (size_of s (pass_of m).phase) x (left.ahead off)))
    (cases_Bool (is_trimming m))
