-- What a walk along positions has seen of them.
use Rattle.std.proofs.Common.{◌≡◌, ℕ, zero, suc, ◌+◌, ◌-◌, ◌<◌, ◌≤◌, Bool, true, false, ◌&&◌, ◌||◌, List, refl, sym, ap, ◌∙◌, arith}
use Rattle.std.specs.List.{list_any, range_with_len}
use Rattle.std.proofs.Math.Bool.{or_assoc}
use Rattle.std.proofs.Math.Path.{fun_ext}
use Rattle.block_list.specs.declared.status.Status.{Status}
use Rattle.block_list.specs.Status.{same}
use Rattle.rescue_domain.specs.Stretch.{IsConstant}
use Rattle.map_counts.specs.At.{status_at}
use Rattle.map_counts.specs.Summary.{has_status}
use Rattle.ddrescueshow_cli.specs.declared.cells.Seen.{Seen}
use Rattle.ddrescueshow_cli.specs.Cells.{has_some, is_seen, worst_by}

abbrev any_of : (ℕ → Bool) → ℕ → ℕ → Bool
any_of p from n = list_any p (range_with_len from n)

or_same : (v : Bool) → (v || v) ≡ v
or_same true = refl
or_same false = refl

or_none : (v : Bool) → (v || false) ≡ v
or_none true = refl
or_none false = refl

-- positions that are alike
any_alike : (p : ℕ → Bool) (from n : ℕ) (v : Bool) → ((x : ℕ) → from ≤ x → x < from + suc n → p x ≡ v)
    → any_of p from (suc n) ≡ v
any_alike p from zero v h = ap (λ b. b || false) (h from (omega arith) (omega arith)) ∙ or_none v
any_alike p from (suc n) v h =
    ap (λ b. b || any_of p (from + 1) (suc n)) (h from (omega arith) (omega arith))
    ∙ ap (λ b. v || b) (any_alike p (from + 1) n v (λ x l u. h x (omega (arith, l)) (omega (arith, u))))
    ∙ or_same v

-- m positions, and such after them
any_more : (p : ℕ → Bool) (from m n : ℕ) (v : Bool) → ((x : ℕ) → from + m ≤ x → x < from + m + suc n → p x ≡ v)
    → any_of p from (m + suc n) ≡ (any_of p from m || v)
any_more p from zero n v h =
    let z : 0 + suc n ≡ suc n = omega arith in
    ap (λ (k : ℕ). any_of p from k) z ∙ any_alike p from n v (λ x l u. h x (omega (arith, l)) (omega (arith, u)))
any_more p from (suc m) n v h =
    let z : suc m + suc n ≡ suc (m + suc n) = omega arith in
    ap (λ (k : ℕ). any_of p from k) z
    ∙ ap (λ b. p from || b)
    (any_more p (from + 1) m n v (λ x l u. h x (omega (arith, l)) (omega (arith, u))))
    ∙ sym (or_assoc (p from) (any_of p (from + 1) m) v)

-- what was seen from one position up to another is what is there
pub record IsWalked (domain : ℕ → Bool) (statuses : List Status) (from at : ℕ) (seen : Seen) : Type 0 where
  pub after : from ≤ at
  pub each : (s : Status) → is_seen seen s ≡ has_some domain statuses from at s

pub walked_none : (domain : ℕ → Bool) (statuses : List Status) (from : ℕ) (seen : Seen)
    → ((s : Status) → is_seen seen s ≡ false) → IsWalked domain statuses from from seen
walked_none domain statuses from seen none =
    let z : from - from ≡ 0 = omega arith in
    record {
      after = omega arith;
      each = λ s. none s ∙ sym (ap (λ n. any_of (has_status domain statuses s) from n) z);
    }

pub walked_piece : (domain : ℕ → Bool) (statuses : List Status) (from at to : ℕ) (status : Status) (inside : Bool)
    (seen next : Seen) → IsWalked domain statuses from at seen → IsConstant (status_at statuses) at to status
    → IsConstant domain at to inside
    → ((s : Status) → is_seen next s ≡ (is_seen seen s || (inside && same status s)))
    → IsWalked domain statuses from to next
walked_piece domain statuses from at to status inside seen next w k d more =
    let m : ℕ = at - from in
    let n : ℕ = to - at - 1 in
    let here : from + m ≡ at = omega (arith, w.after) in
    let there : from + m + suc n ≡ to = omega (arith, w.after, k.some) in
    let all : m + suc n ≡ to - from = omega (arith, w.after, k.some) in
    record {
      after = omega (arith, w.after, k.some);
      each = λ s.
          let set : ℕ → Bool = has_status domain statuses s in
          let alike : (x : ℕ) → from + m ≤ x → x < from + m + suc n → set x ≡ (inside && same status s) = λ x l u.
          ap (λ b. b && same (status_at statuses x) s) (d.each x (omega (arith, l, here)) (omega (arith, u, there)))
          ∙ ap (λ t. inside && same t s) (k.each x (omega (arith, l, here)) (omega (arith, u, there))) in
          more s ∙ ap (λ b. b || (inside && same status s)) (w.each s)
          ∙ sym (any_more set from m n (inside && same status s) alike)
          ∙ ap (λ j. any_of set from j) all;
    }

-- up to an end that was come to
pub walked_to : (domain : ℕ → Bool) (statuses : List Status) (from at to : ℕ) (seen : Seen)
    → IsWalked domain statuses from at seen → to ≤ at → at - from ≤ to - from
    → worst_by (is_seen seen) ≡ worst_by (has_some domain statuses from to)
walked_to domain statuses from at to seen w end within =
    let e : at - from ≡ to - from = omega (arith, end, within) in
    ap worst_by (fun_ext (λ s. w.each s ∙ ap (λ n. any_of (has_status domain statuses s) from n) e))
