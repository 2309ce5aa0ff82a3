-- How a search that halves what is left comes to its end.
use Rattle.std.specs.List.Sorted.{IsNonDecreasingBy}
use Rattle.std.proofs.Common.{◌≡◌, ℕ, zero, suc, ◌+◌, ◌<◌, ◌≤◌, ◌^◌, List, length, get_or, arith, ap, ◌∙◌}
use Rattle.std.proofs.lemmas.List.{get_or_default}
use Rattle.block_pages.specs.Search.{IsSearched}

-- what a search has come to: the element at last begins before a place, and those from end on don't
pub record IsNarrowed {X : Type 0} (begin : X → ℕ) (xs : List X) (at last end : ℕ) : Type 0 where
  pub order : last < end
  pub within : end ≤ length xs
  pub before : (d : X) → begin (get_or xs last d) < at
  pub past : (d : X) → end < length xs → at ≤ begin (get_or xs end d)

-- the search goes on among those from a middle one on, or among those in front of it
pub narrowed_up : {X : Type 0} (begin : X → ℕ) (xs : List X) (at last end middle : ℕ) (x : X)
    → IsNarrowed begin xs at last end → last < middle → middle < end → x ≡ get_or xs middle x → begin x < at
    → IsNarrowed begin xs at middle end
narrowed_up begin xs at last end middle x n a b e l = record {
  order = b;
  within = n.within;
  before = λ d.
      omega (arith, ap begin (e ∙ get_or_default xs middle x d (omega (arith, n.within))));
  past = n.past;
}

pub narrowed_down : {X : Type 0} (begin : X → ℕ) (xs : List X) (at last end middle : ℕ) (x : X)
    → IsNarrowed begin xs at last end → last < middle → middle < end → x ≡ get_or xs middle x → at ≤ begin x
    → IsNarrowed begin xs at last middle
narrowed_down begin xs at last end middle x n a b e l = record {
  order = a;
  within = omega (arith, n.within);
  before = n.before;
  past = λ d u. omega (arith, ap begin (e ∙ get_or_default xs middle x d u));
}

pub narrowed_found : {X : Type 0} (begin : X → ℕ) (xs : List X) (at last end : ℕ) → IsNonDecreasingBy begin xs
    → IsNarrowed begin xs at last end → end ≤ last + 1 → IsSearched begin xs at (last + 1)
narrowed_found begin xs at last end r n h = record {
  within = omega (arith, n.order, n.within);
  before = λ i d l. omega (arith, n.before d, r i last d (omega arith) (omega (arith, n.order, n.within)));
  past = λ i d l u. omega (arith, n.past d (omega (arith, n.order)), r end i d (omega (arith, n.order)) u);
}

-- how many steps a search has taken that halves its width in each
pub record IsHalved (total width old new : ℕ) : Type 0 where
  pub left : (n : ℕ) → total ≤ 2 ^ n → (r : ℕ) × (width ≤ 2 ^ r) × (new + r ≤ old + n)

pub halved_none : (total old : ℕ) → IsHalved total total old old
halved_none total old = record { left = λ n h. (n, h, omega arith) }

pub halved_first : (total width old : ℕ) → width ≡ total → IsHalved total width old old
halved_first total width old e = rw e (halved_none total old)

halved_once : (width less r new bound : ℕ) → 1 < width → less + less ≤ width + 1 → width ≤ 2 ^ r → new + r ≤ bound
    → (q : ℕ) × (less ≤ 2 ^ q) × (new + 1 + q ≤ bound)
halved_once width less zero new bound h l u v = absurd (omega arith)
halved_once width less (suc r) new bound h l u v = (r, omega arith, omega arith)

pub halved_more : (total width less old new : ℕ) → 1 < width → less + less ≤ width + 1 → IsHalved total width old new
    → IsHalved total less old (new + 1)
halved_more total width less old new h l t = record {
  left = λ n u.
      let w = t.left n u in
      halved_once width less w.0 new (old + n) h l w.1 w.2;
}

pub halved_cost : (total width old new n : ℕ) → IsHalved total width old new → total ≤ 2 ^ n → new ≤ old + n
halved_cost total width old new n t u = let w = t.left n u in omega (arith, w.2)

-- a number is at most as large as the power of two below it is
pub below_power : (n : ℕ) → n + 1 ≤ 2 ^ n
below_power zero = omega arith
below_power (suc n) = omega (arith, below_power n)
