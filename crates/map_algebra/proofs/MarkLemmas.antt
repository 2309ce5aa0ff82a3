-- The marks of blocks whose numbers ascend, block by block.
use Rattle.std.proofs.Common.{◌≡◌, ℕ, zero, suc, ◌+◌, ◌-◌, ◌<◌, ◌≤◌, min, max, Bool, true, false, cond, List, ◌∷◌, ◌++◌, length, replicate, map, get_or, append-nil, length-append, ap, sym, ◌∙◌, refl, subst, ⊎_elim, arith}
use Rattle.std.specs.List.{range_with_len}
use Rattle.std.specs.List.Sorted.{IsNonDecreasing, IsPermutation}
use Rattle.std.proofs.lemmas.List.Sorted.{list_any-IsPermutation}
use Rattle.std.proofs.lemmas.Bool.{cases_lt, cond-true, cond-false, false_from_ne_true}
use Rattle.std.proofs.lemmas.List.{length-replicate}
use Rattle.block_list.specs.declared.status.Status.{Status}
use Rattle.block_list.specs.declared.status.Status.TheVariants.{NonTried, Finished}
use Rattle.map_algebra.specs.declared.shape.Shape.{Shape}
use Rattle.map_counts.specs.At.{map_by, status_at}
use Rattle.map_algebra.specs.Blocks.{begin_of, end_of, is_in_block, is_in_blocks}
use Rattle.map_algebra.specs.Create.{at_mark, created_map, mark_of}
use Rattle.map_algebra.proofs.MapLemmas.{length_map_by, grown, status_below}
use Rattle.map_algebra.proofs.BlockLemmas.{in_block, within_block, in_some, some_in, begins_later}

-- the map with a status put up to a place
abbrev pub put_up : List Status → (to : ℕ) → Status → List Status
put_up made to s = made ++ replicate (to - length made) s

length_put : (made : List Status) (to : ℕ) (s : Status) → length (put_up made to s) ≡ max (length made) to
length_put made to s =
    let n : ℕ = to - length made in
    omega (arith, length-append made (replicate n s), length-replicate n s)

-- a map by position stays one where what is put is what the positions have
put_by : (f : ℕ → Status) (made : List Status) (to : ℕ) (s : Status) → made ≡ map_by f (length made)
    → ((x : ℕ) → length made ≤ x → x < to → f x ≡ s) → put_up made to s ≡ map_by f (length (put_up made to s))
put_by f made to s so_far h =
    let at : ℕ = length made in
    let new : length (put_up made to s) ≡ max at to = length_put made to s in
    ⊎_elim
    (λ (l : at < to).
    let e : to ≡ length (put_up made to s) = omega (arith, new, l) in
    grown f at to s made (put_up made to s) so_far (omega (arith, l)) refl h ∙ ap (map_by f) e)
    (λ (l : to ≤ at).
    let none : to - at ≡ 0 = omega (arith, l) in
    let e : at ≡ length (put_up made to s) = omega (arith, new, l) in
    ap (λ (n : ℕ). made ++ replicate n s) none ∙ append-nil made ∙ so_far ∙ ap (map_by f) e)
    (cases_lt at to)

-- what is made so far are the marks up to there, and the first so many blocks end there or in front of it
pub record AreMarks (s : Shape) (ks : List ℕ) (n end : ℕ) (made : List Status) : Type 0 where
  pub so_far : made ≡ map_by (mark_of s ks) (length made)
  pub below : length made ≤ end
  pub passed : (i d : ℕ) → i < n → min (end_of s (get_or ks i d)) end ≤ length made

-- a position that isn't in one of the blocks that came, and lies in front of the next one, is in none
outside : (s : Shape) (ks : List ℕ) (n end : ℕ) (made : List Status) → 0 < s.size → AreMarks s ks n end made
    → (x : ℕ) → length made ≤ x → x < end
    → ((i d : ℕ) → n ≤ i → i < length ks → x < begin_of s (get_or ks i d)) → is_in_blocks s ks x ≡ false
outside s ks n end made some m x l u later = false_from_ne_true (is_in_blocks s ks x) (λ t.
    let b = in_some s ks x t in
    let k : ℕ = b.0 in
    let i : ℕ = b.1.0 in
    let w = within_block s k x some b.2 in
    ⊎_elim
    (λ (a : i < n).
    let e : min (end_of s k) end ≤ length made =
    subst (λ (q : ℕ). min (end_of s q) end ≤ length made) b.1.2 (m.passed i k a) in
    omega (arith, e, l, u, w.1))
    (λ (a : n ≤ i).
    let e : x < begin_of s k = subst (λ (q : ℕ). x < begin_of s q) b.1.2 (later i k a b.1.1) in
    omega (arith, e, w.0))
    (cases_lt i n))

-- one block more
pub more_marks : (s : Shape) (ks : List ℕ) (n end : ℕ) (made : List Status) (k from to : ℕ) → 0 < s.size
    → IsNonDecreasing ks → n < length ks → ((d : ℕ) → get_or ks n d ≡ k) → AreMarks s ks n end made
    → from ≡ min (begin_of s k) end → to ≡ min (end_of s k) end
    → AreMarks s ks (n + 1) end (put_up (put_up made from NonTried) to Finished)
more_marks s ks n end made k from to some order short is m begun ended =
    let f : ℕ → Status = mark_of s ks in
    let one : List Status = put_up made from NonTried in
    let two : List Status = put_up one to Finished in
    let length_one : length one ≡ max (length made) from = length_put made from NonTried in
    let length_two : length two ≡ max (length one) to = length_put one to Finished in
    let gap : (x : ℕ) → length made ≤ x → x < from → f x ≡ NonTried = λ x l u.
    cond-false (is_in_blocks s ks x) Finished NonTried
    (outside s ks n end made some m x l (omega (arith, u, begun)) (λ i d a b.
    let e : k ≤ get_or ks i d = omega (arith, is d, order n i d a b) in
    omega (arith, u, begun, begins_later s k (get_or ks i d) e))) in
    let inside : (x : ℕ) → length one ≤ x → x < to → f x ≡ Finished = λ x l u.
    cond-true (is_in_blocks s ks x) Finished NonTried
    (some_in s ks k x (n, short, is k)
    (in_block s k x some (omega (arith, l, u, length_one, begun, ended)) (omega (arith, u, ended)))) in
    record {
      so_far = put_by f one to Finished (put_by f made from NonTried m.so_far gap) inside;
      below = omega (arith, length_one, length_two, begun, ended, m.below);
      passed = λ i d l. ⊎_elim
          (λ (a : i < n). omega (arith, length_one, length_two, m.passed i d a))
          (λ (a : n ≤ i).
          let e : n ≡ i = omega (arith, a, l) in
          let same : k ≡ get_or ks i d = sym (is d) ∙ ap (λ (j : ℕ). get_or ks j d) e in
          let h : min (end_of s k) end ≤ length two = omega (arith, length_two, ended) in
          subst (λ (q : ℕ). min (end_of s q) end ≤ length two) same h)
          (cases_lt i n);
    }

-- past the last block no position is marked
pub all_marks : (s : Shape) (ks : List ℕ) (end : ℕ) (made : List Status) → 0 < s.size
    → AreMarks s ks (length ks) end made → put_up made end NonTried ≡ map_by (mark_of s ks) end
all_marks s ks end made some m =
    let all : List Status = put_up made end NonTried in
    let e : length all ≡ end = omega (arith, length_put made end NonTried, m.below) in
    put_by (mark_of s ks) made end NonTried m.so_far
    (λ x l u. cond-false (is_in_blocks s ks x) Finished NonTried
    (outside s ks (length ks) end made some m x l u (λ i d a b. absurd (omega (arith, a, b)))))
    ∙ ap (map_by (mark_of s ks)) e

-- maps by statuses that are the same below an end are the same
map_range_same : (f g : ℕ → Status) (a n : ℕ) → ((x : ℕ) → a ≤ x → x < a + n → f x ≡ g x)
    → map f (range_with_len a n) ≡ map g (range_with_len a n)
map_range_same f g a zero h = refl
map_range_same f g a (suc n) h =
    ap (λ (s : Status). s ∷ map f (range_with_len (a + 1) n)) (h a (omega arith) (omega arith))
    ∙ ap (λ (r : List Status). g a ∷ r)
    (map_range_same f g (a + 1) n (λ x l u. h x (omega (arith, l)) (omega (arith, u))))

pub map_by_same : (f g : ℕ → Status) (end : ℕ) → ((x : ℕ) → x < end → f x ≡ g x) → map_by f end ≡ map_by g end
map_by_same f g end h = map_range_same f g 0 end (λ x l u. h x (omega (arith, u)))

at_mark_of : (marked inside : Bool) (listed rest : Status)
    → at_mark (cond marked Finished NonTried) inside listed rest ≡ cond inside (cond marked listed rest) NonTried
at_mark_of true inside listed rest = refl
at_mark_of false inside listed rest = refl

-- numbers in another order are of the same blocks, so they have the same marks
pub marks_moved : (s : Shape) (ks sorted : List ℕ) (end : ℕ) → IsPermutation ks sorted
    → map_by (mark_of s sorted) end ≡ map_by (mark_of s ks) end
marks_moved s ks sorted end moved = map_by_same (mark_of s sorted) (mark_of s ks) end (λ x l.
    ap (λ (b : Bool). cond b Finished NonTried)
    (sym (list_any-IsPermutation (λ (k : ℕ). is_in_block s k x) ks sorted moved)))

-- the map that marks stand for is the created one
pub created_is : (s : Shape) (ks : List ℕ) (domain : ℕ → Bool) (listed rest : Status) (end : ℕ)
    (marks : List Status) → marks ≡ map_by (mark_of s ks) end
    → map_by (λ x. at_mark (status_at marks x) (domain x) listed rest) (length marks)
    ≡ created_map s ks domain listed rest end
created_is s ks domain listed rest end marks e =
    let whole : ℕ → Status = λ x. at_mark (status_at marks x) (domain x) listed rest in
    let mean : ℕ → Status = λ x. cond (domain x) (cond (is_in_blocks s ks x) listed rest) NonTried in
    let size : length marks ≡ end = ap length e ∙ length_map_by (mark_of s ks) end in
    ap (map_by whole) size
    ∙ map_by_same whole mean end (λ x l.
    let mark : status_at marks x ≡ mark_of s ks x =
    ap (λ (m : List Status). status_at m x) e ∙ status_below (mark_of s ks) end x l in
    ap (λ (m : Status). at_mark m (domain x) listed rest) mark
    ∙ at_mark_of (is_in_blocks s ks x) (domain x) listed rest)
