-- The positions of blocks.
use Rattle.std.proofs.Common.{◌≡◌, ℕ, suc, ◌+◌, ◌-◌, ◌*◌, ◌/◌, ◌<◌, ◌≤◌, true, nat_eq, nat_le, List, All, subst, arith}
use Rattle.std.specs.List.{Contains}
use Rattle.std.proofs.lemmas.Bool.{and_parts, and_from, eqb-true, eq-eqb, leb-true, le-leb}
use Rattle.std.proofs.lemmas.Nat.{le-div}
use Rattle.std.proofs.lemmas.List.Folds.{Any-from_list_any, list_any-from_Any}
use Rattle.std.proofs.Math.Nat.{div-lt_iff_lt-mul, lt-div-mul-add, div-mul-le_self, mul-le-mul_right}
use Rattle.map_algebra.specs.declared.shape.Shape.{Shape}
use Rattle.map_algebra.specs.Blocks.{IsEndOfBlocks, block_of, begin_of, end_of, is_in_block, is_in_blocks}

-- a place stands in the block of a number exactly from its begin on up to its end
quotient_is : (p k size : ℕ) → 0 < size → k * size ≤ p → p < k * size + size → p / size ≡ k
quotient_is p k size some low high =
    let below : p / size < suc k = (div-lt_iff_lt-mul {k = size} {x = p} {y = suc k} some).1 (omega (arith, high)) in
    let above : k ≤ p / size = le-div k p size some low in
    omega (arith, below, above)

-- a position stands in a block exactly from where it begins up to where it ends
pub in_block : (s : Shape) (k x : ℕ) → 0 < s.size → begin_of s k ≤ x → x < end_of s k → is_in_block s k x ≡ true
in_block s k x some low high =
    and_from (nat_le s.ipos x) (nat_eq (block_of s x) k) (le-leb s.ipos x (omega (arith, low)))
    (eq-eqb (block_of s x) k
    (quotient_is (x - s.ipos + s.opos) k s.size some (omega (arith, low)) (omega (arith, low, high))))

pub within_block : (s : Shape) (k x : ℕ) → 0 < s.size → is_in_block s k x ≡ true → (begin_of s k ≤ x) × (x < end_of s k)
within_block s k x some h =
    let parts = and_parts (nat_le s.ipos x) (nat_eq (block_of s x) k) h in
    let begun : s.ipos ≤ x = leb-true s.ipos x parts.0 in
    let p : ℕ = x - s.ipos + s.opos in
    let e : p / s.size ≡ k = eqb-true (block_of s x) k parts.1 in
    let low : k * s.size ≤ p = subst (λ (q : ℕ). q * s.size ≤ p) e (div-mul-le_self p s.size) in
    let high : p < k * s.size + s.size =
    subst (λ (q : ℕ). p < q * s.size + s.size) e (lt-div-mul-add {a = p} {b = s.size} some) in
    (omega (arith, low, begun), omega (arith, high, begun))

-- some number has the block in which a position stands
pub in_some : (s : Shape) (ks : List ℕ) (x : ℕ) → is_in_blocks s ks x ≡ true
    → (k : ℕ) × Contains ks k × (is_in_block s k x ≡ true)
in_some s ks x h =
    let a = Any-from_list_any (λ (k : ℕ). is_in_block s k x) ks h in (a.1, (a.0, a.2, a.3), a.4)

pub some_in : (s : Shape) (ks : List ℕ) (k x : ℕ) → Contains ks k → is_in_block s k x ≡ true
    → is_in_blocks s ks x ≡ true
some_in s ks k x c h = list_any-from_Any (λ (k : ℕ). is_in_block s k x) ks (c.0, k, c.1, c.2, h)

pub all_at : (P : ℕ → Type 0) (ks : List ℕ) (k : ℕ) → All P ks → Contains ks k → P k
all_at P ks k all c = subst P c.2 (all c.0 k c.1)

-- blocks of greater numbers begin and end later
pub begins_later : (s : Shape) (k m : ℕ) → k ≤ m → begin_of s k ≤ begin_of s m
begins_later s k m h = omega (arith, mul-le-mul_right {m = k} {n = m} s.size h)

pub ends_later : (s : Shape) (k m : ℕ) → k ≤ m → end_of s k ≤ end_of s m
ends_later s k m h = omega (arith, mul-le-mul_right {m = k} {n = m} s.size h)

abbrev IsAtMost : (m k : ℕ) → Type 0
IsAtMost m k = k ≤ m

-- the end of the greatest block is that of all
pub ends_last : (s : Shape) (ks : List ℕ) (m : ℕ) → 0 < s.size → Contains ks m → All (λ k. k ≤ m) ks
    → begin_of s m < end_of s m → IsEndOfBlocks s ks (end_of s m)
ends_last s ks m some c all h = record {
  within = λ x t.
      let b = in_some s ks x t in
      let w = within_block s b.0 x some b.2 in
      let l : b.0 ≤ m = all_at (IsAtMost m) ks b.0 all b.1 in
      omega (arith, w.1, ends_later s b.0 m l);
  least = λ other below.
      let last : ℕ = end_of s m - 1 in
      let l : last < other =
      below last (some_in s ks m last c (in_block s m last some (omega (arith, h)) (omega (arith, h)))) in
      omega (arith, l, h);
}

-- where it has no position no block has one
pub ends_nowhere : (s : Shape) (ks : List ℕ) (m : ℕ) → 0 < s.size → All (λ k. k ≤ m) ks
    → end_of s m ≤ begin_of s m → IsEndOfBlocks s ks 0
ends_nowhere s ks m some all h = record {
  within = λ x t.
      let b = in_some s ks x t in
      let w = within_block s b.0 x some b.2 in
      let l : b.0 ≤ m = all_at (IsAtMost m) ks b.0 all b.1 in
      absurd (omega (arith, w.0, w.1, h, some, ends_later s b.0 m l));
  least = λ other below. omega arith;
}
