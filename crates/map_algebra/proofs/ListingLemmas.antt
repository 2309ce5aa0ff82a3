-- A listing number by number.
use Rattle.std.proofs.Common.{◌≡◌, ℕ, zero, suc, ◌+◌, ◌<◌, ◌≤◌, Bool, true, false, ◌&&◌, cond, nat_le, List, [], ◌∷◌, length, filter, ap, sym, ◌∙◌, refl, ⊎_elim, arith}
use Rattle.std.specs.List.{range_with_len}
use Rattle.std.proofs.lemmas.Bool.{and_from, and_left, and_parts, cases_lt, cond-true, cond-false, false_from_ne_true, le-leb, leb-true, lt-leb}
use Rattle.block_list.specs.Places.{IsFirst}
use Rattle.map_algebra.specs.Blocks.{block_of}
use Rattle.map_algebra.specs.Listing.{is_listed}
use Rattle.map_algebra.specs.BlockLaws.{ListingsGoOn}
use Rattle.map_algebra.proofs.ListedLemmas.{block_mono, one_from}

abbrev from_on : (ℕ → Bool) → (least : ℕ) → ℕ → Bool
from_on q least k = nat_le least k && q k

abbrev IsPassed : (ℕ → Bool) → ℕ → Type 0
IsPassed q k = q k ≡ true

kept : (p : ℕ → Bool) (k : ℕ) (ks : List ℕ) → p k ≡ true → filter p (k ∷ ks) ≡ k ∷ filter p ks
kept p k ks t = cond-true (p k) (k ∷ filter p ks) (filter p ks) t

passed_over : (p : ℕ → Bool) (k : ℕ) (ks : List ℕ) → p k ≡ false → filter p (k ∷ ks) ≡ filter p ks
passed_over p k ks f = cond-false (p k) (k ∷ filter p ks) (filter p ks) f

-- tests that agree from a number on keep the same of a range from there on
filter_same : (p q : ℕ → Bool) (a n : ℕ) → ((k : ℕ) → a ≤ k → p k ≡ q k)
    → filter p (range_with_len a n) ≡ filter q (range_with_len a n)
filter_same p q a zero h = refl
filter_same p q a (suc n) h =
    let later : filter p (range_with_len (a + 1) n) ≡ filter q (range_with_len (a + 1) n) =
    filter_same p q (a + 1) n (λ k l. h k (omega (arith, l))) in
    ap (λ (ks : List ℕ). cond (p a) (a ∷ ks) ks) later
    ∙ ap (λ (b : Bool). cond b (a ∷ filter q (range_with_len (a + 1) n)) (filter q (range_with_len (a + 1) n)))
    (h a (omega arith))

filter_none : (p : ℕ → Bool) (a n : ℕ) → ((k : ℕ) → p k ≡ false) → filter p (range_with_len a n) ≡ []
filter_none p a zero h = refl
filter_none p a (suc n) h = passed_over p a (range_with_len (a + 1) n) (h a) ∙ filter_none p (a + 1) n h

-- what a range keeps from a number on is the first that passes, and what it keeps past that one
goes_on : (q : ℕ → Bool) (least k a n : ℕ) → IsFirst (IsPassed q) least k → a ≤ k → k < a + n
    → filter (from_on q least) (range_with_len a n) ≡ k ∷ filter (from_on q (k + 1)) (range_with_len a n)
goes_on q least k a zero f l u = absurd (omega (arith, l, u))
goes_on q least k a (suc n) f l u =
    let rest : List ℕ = range_with_len (a + 1) n in
    let before : nat_le (k + 1) a ≡ false = lt-leb (k + 1) a (omega (arith, l)) in
    let skipped : filter (from_on q (k + 1)) (a ∷ rest) ≡ filter (from_on q (k + 1)) rest =
    passed_over (from_on q (k + 1)) a rest (and_left (nat_le (k + 1) a) (q a) before) in
    ⊎_elim
    (λ (b : a < k).
    let none : from_on q least a ≡ false = false_from_ne_true (from_on q least a) (λ t.
    let p = and_parts (nat_le least a) (q a) t in
    omega (arith, b, f.least a (leb-true least a p.0) p.1)) in
    passed_over (from_on q least) a rest none
    ∙ goes_on q least k (a + 1) n f (omega (arith, b)) (omega (arith, u))
    ∙ ap (λ (ks : List ℕ). k ∷ ks) (sym skipped))
    (λ (b : k ≤ a).
    let same : a ≡ k = omega (arith, b, l) in
    let passes : q a ≡ true = ap q same ∙ f.holds in
    let first : from_on q least a ≡ true =
    and_from (nat_le least a) (q a) (le-leb least a (omega (arith, same, f.after))) passes in
    let alike : filter (from_on q least) rest ≡ filter (from_on q (k + 1)) rest =
    filter_same (from_on q least) (from_on q (k + 1)) (a + 1) n (λ x h.
    ap (λ (t : Bool). t && q x) (le-leb least x (omega (arith, h, same, f.after))
    ∙ sym (le-leb (k + 1) x (omega (arith, h, same))))) in
    kept (from_on q least) a rest first ∙ ap (λ (x : ℕ). x ∷ filter (from_on q least) rest) same
    ∙ ap (λ (ks : List ℕ). k ∷ ks) (alike ∙ sym skipped))
    (cases_lt a k)

pub listings_go_on : ListingsGoOn
listings_go_on w =
    let n : ℕ = block_of w.shape (length w.statuses) + 1 in
    let q : ℕ → Bool = is_listed w in
    record {
      begins = filter_same (from_on q 0) q 0 n (λ k l. ap (λ (t : Bool). t && q k) (le-leb 0 k (omega arith)));
      goes_on = λ least k f.
          let o = one_from w k f.holds in
          let below : k < 0 + n =
          omega (arith, o.3, block_mono w.shape o.0 (length w.statuses) (omega (arith, o.1))) in
          goes_on q least k 0 n f (omega arith) below;
      ends = λ least none. filter_none (from_on q least) 0 n (λ k.
          false_from_ne_true (from_on q least k) (λ t.
          let p = and_parts (nat_le least k) (q k) t in none k (leb-true least k p.0) p.1));
    }
