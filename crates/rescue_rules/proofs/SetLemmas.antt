-- How much of a set of positions there is, where it changes from one position up to another.
use Rattle.std.proofs.Common.{◌≡◌, ℕ, zero, suc, ◌+◌, ◌-◌, ◌<◌, ◌≤◌, Bool, true, false, not, ◌&&◌, ◌||◌, nat_lt, if◌then◌else◌, arith, inl, inr, ⊎_elim, refl, subst, ap, ◌∙◌, sym}
use Rattle.std.specs.Prelude.{count_by}
use Rattle.std.specs.List.{range_with_len}
use Rattle.std.proofs.lemmas.Bool.{cases_lt, lt-ltb, le-ltb, and_right}
use Rattle.std.proofs.lemmas.List.FromFn.{length-range_with_len}
use Rattle.std.proofs.lemmas.List.Sums.{sum_by-cons, count_by-le-length}
use Rattle.std.proofs.Math.Bool.{and-true}
use Rattle.block_list.specs.Areas.{begins_area, count_below, count_of, AgreeOutside}
use Rattle.block_list.proofs.AreaLemmas.{areas_change_within, count_split, count_same, weight}
use Rattle.rescue_rules.specs.Recounts.{count_within, is_in_front}

-- positions from one up to another are all in a set, or none is
pub record AllAre (set : ℕ → Bool) (from to : ℕ) (v : Bool) : Type 0 where
  pub each : (x : ℕ) → from ≤ x → x < to → set x ≡ v

abbrev pub size_if : Bool → ℕ → ℕ
size_if b n = if b then n else 0

count_first : (set : ℕ → Bool) (from n : ℕ)
    → count_by set (range_with_len from (suc n)) ≡ weight (set from) + count_by set (range_with_len (from + 1) n)
count_first set from n = sum_by-cons (λ (x : ℕ). if set x then 1 else 0) from (range_with_len (from + 1) n)

nothing : (b : Bool) → size_if b 0 ≡ 0
nothing true = refl
nothing false = refl

one_more : (b : Bool) (n : ℕ) → weight b + size_if b n ≡ size_if b (suc n)
one_more true n = omega arith
one_more false n = refl

count_run : (f : ℕ → Bool) (n a : ℕ) (v : Bool) → ((x : ℕ) → a ≤ x → x < a + n → f x ≡ v)
    → count_by f (range_with_len a n) ≡ size_if v n
count_run f zero a v same = sym (nothing v)
count_run f (suc n) a v same =
    let rest = count_run f n (a + 1) v (λ x from to. same x (omega (arith, from)) (omega (arith, to))) in
    let here : weight (f a) ≡ weight v = ap weight (same a (omega arith) (omega arith)) in
    omega (arith, count_first f a n, rest, here, one_more v n)

pub within_most : (set : ℕ → Bool) (from to : ℕ) → count_within set from to ≤ to - from
within_most set from to =
    omega (arith, count_by-le-length set (range_with_len from (to - from)), length-range_with_len from (to - from))

-- from one position up to a second one and from there up to a third one
pub within_cut : (set : ℕ → Bool) (from mid to : ℕ) → from ≤ mid → mid ≤ to
    → count_within set from to ≡ count_within set from mid + count_within set mid to
within_cut set from mid to le ge =
    count_split set (mid - from) from (to - mid) (to - from) mid (omega (arith, le, ge)) (omega (arith, le))

pub within_same : (f g : ℕ → Bool) (from to : ℕ) → ((x : ℕ) → from ≤ x → x < to → f x ≡ g x)
    → count_within f from to ≡ count_within g from to
within_same f g from to same =
    count_same f g (to - from) from (λ x low high. same x low (omega (arith, low, high)))

pub within_run : (set : ℕ → Bool) (from to : ℕ) (v : Bool) → AllAre set from to v
    → count_within set from to ≡ size_if v (to - from)
within_run set from to v all = count_run set (to - from) from v (λ x low high. all.each x low (omega (arith, low, high)))

-- An area begins at a position of the set with none of them in front.
pub begins_is : (set : ℕ → Bool) (x : ℕ) → begins_area set x ≡ (set x && not (is_in_front set x))
begins_is set zero = elim (set 0) as (λ b. b ≡ (b && true)) [ true ↦ refl | false ↦ refl ]
begins_is set (suc x) = refl

pub front_same : (f g : ℕ → Bool) (x : ℕ) → ((y : ℕ) → y < x → f y ≡ g y) → is_in_front f x ≡ is_in_front g x
front_same f g zero same = refl
front_same f g (suc x) same = same x (omega arith)

front_run : (set : ℕ → Bool) (from to : ℕ) (v : Bool) → from < to → AllAre set from to v → is_in_front set to ≡ v
front_run set from zero v lt all = absurd (omega (arith, lt))
front_run set from (suc x) v lt all = all.each x (omega (arith, lt)) (omega arith)

pub begins_same : (f g : ℕ → Bool) (x : ℕ) → ((y : ℕ) → y ≤ x → f y ≡ g y) → begins_area f x ≡ begins_area g x
begins_same f g x same =
    begins_is f x ∙ ap (λ b. b && not (is_in_front f x)) (same x (omega arith))
    ∙ ap (λ b. g x && not b) (front_same f g x (λ y lt. same y (omega (arith, lt)))) ∙ sym (begins_is g x)

one_counted : (set : ℕ → Bool) (x : ℕ) → count_within set x (x + 1) ≡ weight (set x)
one_counted set x =
    let e : x + 1 - x ≡ 1 = omega arith in
    let one : count_by set (range_with_len x 1) ≡ weight (set x) + 0 = count_first set x 0 in
    omega (arith, ap (λ n. count_by set (range_with_len x n)) e, one)

never : (v : Bool) → (v && not v) ≡ false
never true = refl
never false = refl

-- after the first of positions that are alike no area begins
begins_run : (set : ℕ → Bool) (from to : ℕ) (v : Bool) → from < to → AllAre set from to v
    → count_within (begins_area set) from to ≡ weight (v && not (is_in_front set from))
begins_run set from to v some all =
    let here : begins_area set from ≡ (v && not (is_in_front set from))
    = begins_is set from ∙ ap (λ b. b && not (is_in_front set from)) (all.each from (omega arith) some) in
    let later : count_within (begins_area set) (from + 1) to ≡ 0
    = within_run (begins_area set) (from + 1) to false (record {
      each = λ x low high.
          begins_is set x ∙ ap (λ b. b && not (is_in_front set x)) (all.each x (omega (arith, low)) high)
          ∙ ap (λ b. v && not b) (front_run set from x v (omega (arith, low)) (record { each = λ y l h. all.each y l (omega (arith, h, high)) })) ∙ never v;
    }) in
    let first : count_within (begins_area set) from (from + 1) ≡ weight (begins_area set from)
    = one_counted (begins_area set) from in
    omega (arith, within_cut (begins_area set) from (from + 1) to (omega arith) (omega (arith, some)), first, later, ap weight here)

-- the same up to the position after them
begins_to : (set : ℕ → Bool) (from to : ℕ) (v : Bool) → from < to → AllAre set from to v
    → count_within (begins_area set) from (to + 1) ≡ weight (v && not (is_in_front set from)) + weight (set to && not v)
begins_to set from to v some all =
    let last : begins_area set to ≡ (set to && not v)
    = begins_is set to ∙ ap (λ b. set to && not b) (front_run set from to v some all) in
    omega (
      arith,
      within_cut (begins_area set) from to (to + 1) (omega (arith, some)) (omega arith),
      begins_run set from to v some all,
      one_counted (begins_area set) to,
      ap weight last,
    )

-- and where those up to a position between are alike, and those from there on
begins_both : (set : ℕ → Bool) (from mid to : ℕ) (v w : Bool) → from < mid → mid < to → AllAre set from mid v
    → AllAre set mid to w → count_within (begins_area set) from (to + 1)
    ≡ weight (v && not (is_in_front set from)) + weight (w && not v) + weight (set to && not w)
begins_both set from mid to v w some more all rest =
    let front : (w && not (is_in_front set mid)) ≡ (w && not v)
    = ap (λ b. w && not b) (front_run set from mid v some all) in
    omega (
      arith,
      within_cut (begins_area set) from mid (to + 1) (omega (arith, some)) (omega (arith, more)),
      begins_run set from mid v some all,
      begins_to set mid to w more rest,
      ap weight front,
    )

pub below_within : (set : ℕ → Bool) (end : ℕ) → count_below set end ≡ count_within set 0 end
below_within set end =
    let e : end ≡ end - 0 = omega arith in ap (λ n. count_by set (range_with_len 0 n)) e

pub below_cut : (set : ℕ → Bool) (mid end : ℕ) → mid ≤ end
    → count_below set end ≡ count_below set mid + count_within set mid end
below_cut set mid end le =
    omega (arith, below_within set end, below_within set mid, within_cut set 0 mid end (omega arith) le)

pub below_same : (f g : ℕ → Bool) (end : ℕ) → ((x : ℕ) → x < end → f x ≡ g x) → count_below f end ≡ count_below g end
below_same f g end same =
    omega (arith, below_within f end, below_within g end, within_same f g 0 end (λ x low high. same x high))

-- A set changes from one position up to another: all of these were in it or none was; after the change all up to one
-- between are in it or none is, and so are those from there on.
pub record Changes (old new : ℕ → Bool) (p k q : ℕ) (was first second : Bool) : Type 0 where
  pub some : p < q
  pub low : p ≤ k
  pub high : k ≤ q
  pub outside : AgreeOutside p q old new
  pub old_are : AllAre old p q was
  pub first_are : AllAre new p k first
  pub second_are : AllAre new k q second

pub bytes_change : (old new : ℕ → Bool) (p k q end : ℕ) (was first second : Bool) → Changes old new p k q was first second
    → q ≤ end → count_below new end + size_if was (q - p)
    ≡ count_below old end + size_if first (k - p) + size_if second (q - k)
bytes_change old new p k q end was first second c there =
    let front : count_below new p ≡ count_below old p = below_same new old p c.outside.front in
    let back : count_within new q end ≡ count_within old q end
    = within_same new old q end (λ x low high. c.outside.back x low) in
    let to : p ≤ end = omega (arith, c.some, there) in
    let le : p ≤ q = omega (arith, c.some) in
    omega (
      arith,
      front,
      back,
      below_cut new p end to,
      below_cut old p end to,
      within_cut new p q end le there,
      within_cut old p q end le there,
      within_cut new p k q c.low c.high,
      within_run old p q was c.old_are,
      within_run new p k first c.first_are,
      within_run new k q second c.second_are,
    )

-- no position of a set lies at an end or past it
pub record EndsBy (set : ℕ → Bool) (end : ℕ) : Type 0 where
  pub none : (x : ℕ) → end ≤ x → set x ≡ false

begins_none : (set : ℕ → Bool) (end : ℕ) → EndsBy set end → weight (begins_area set end) ≡ 0
begins_none set end ends =
    ap weight (begins_is set end ∙ ap (λ b. b && not (is_in_front set end)) (ends.none end (omega arith)))

below_next : (set : ℕ → Bool) (end : ℕ) → count_below set (end + 1) ≡ count_below set end + weight (set end)
below_next set end = omega (arith, below_cut set end (end + 1) (omega arith), one_counted set end)

areas_change : (old new : ℕ → Bool) (p q end : ℕ) → p < q → q ≤ end → AgreeOutside p q old new → EndsBy old end
    → EndsBy new end → (count_of new end).areas + count_within (begins_area old) p (q + 1)
    ≡ (count_of old end).areas + count_within (begins_area new) p (q + 1)
areas_change old new p q end some there outside ends ends' =
    omega (
      arith,
      areas_change_within old new p q (end + 1) some (omega (arith, there)) outside,
      below_next (begins_area old) end,
      below_next (begins_area new) end,
      begins_none old end ends,
      begins_none new end ends',
    )

-- what came into a set where none of it was
pub areas_came : (old new : ℕ → Bool) (p k q end : ℕ) → Changes old new p k q false false true → k < q → q ≤ end
    → EndsBy old end → EndsBy new end → (count_of new end).areas + weight (new q)
    ≡ (count_of old end).areas + weight (nat_lt p k || not (is_in_front new p))
areas_came old new p k q end c more there ends ends' =
    let change = areas_change old new p q end c.some there c.outside ends ends' in
    let before = begins_to old p q false c.some c.old_are in
    let at : weight (old q && true) ≡ weight (new q)
    = ap weight (and-true (old q) ∙ sym (c.outside.back q (omega arith))) in
    ⊎_elim
    (λ (lt : p < k).
    let after = begins_both new p k q false true lt more c.first_are c.second_are in
    let none : weight (new q && false) ≡ 0 = ap weight (and_right (new q) false refl) in
    let one : weight (nat_lt p k || not (is_in_front new p)) ≡ 1
    = ap (λ b. weight (b || not (is_in_front new p))) (lt-ltb p k lt) in
    omega (arith, change, before, at, after, none, one))
    (λ (ge : k ≤ p).
    let e : k ≡ p = omega (arith, ge, c.low) in
    let after = begins_to new p q true c.some (subst (λ k. AllAre new k q true) e c.second_are) in
    let none : weight (new q && false) ≡ 0 = ap weight (and_right (new q) false refl) in
    let front : weight (nat_lt p k || not (is_in_front new p)) ≡ weight (not (is_in_front new p))
    = ap (λ b. weight (b || not (is_in_front new p))) (le-ltb p k ge) in
    omega (arith, change, before, at, after, none, front))
    (cases_lt p k)

-- what went out of a set where all of it was
pub areas_went : (old new : ℕ → Bool) (p k q end : ℕ) → Changes old new p k q true false true → p < k → q ≤ end
    → EndsBy old end → EndsBy new end → (count_of new end).areas + weight (not (is_in_front new p))
    ≡ (count_of old end).areas + weight (nat_lt k q || new q)
areas_went old new p k q end c some there ends ends' =
    let change = areas_change old new p q end c.some there c.outside ends ends' in
    let before = begins_to old p q true c.some c.old_are in
    let none : weight (old q && false) ≡ 0 = ap weight (and_right (old q) false refl) in
    let front : weight (not (is_in_front old p)) ≡ weight (not (is_in_front new p))
    = ap (λ b. weight (not b)) (front_same old new p (λ y lt. sym (c.outside.front y lt))) in
    ⊎_elim
    (λ (more : k < q).
    let after = begins_both new p k q false true some more c.first_are c.second_are in
    let last : weight (new q && false) ≡ 0 = ap weight (and_right (new q) false refl) in
    let one : weight (nat_lt k q || new q) ≡ 1 = ap (λ b. weight (b || new q)) (lt-ltb k q more) in
    omega (arith, change, before, none, front, after, last, one))
    (λ (all : q ≤ k).
    let e : k ≡ q = omega (arith, all, c.high) in
    let after = begins_to new p q false c.some (subst (λ k. AllAre new p k false) e c.first_are) in
    let last : weight (new q && true) ≡ weight (new q) = ap weight (and-true (new q)) in
    let past : weight (nat_lt k q || new q) ≡ weight (new q) = ap (λ b. weight (b || new q)) (le-ltb k q all) in
    omega (arith, change, before, none, front, after, last, past))
    (cases_lt k q)

-- If all that lies at an end or past it goes out of a set, the rest stays.
pub record CutOff (old new : ℕ → Bool) (end : ℕ) : Type 0 where
  pub front : (x : ℕ) → x < end → new x ≡ old x
  pub back : (x : ℕ) → end ≤ x → new x ≡ false

pub bytes_cut : (old new : ℕ → Bool) (k end : ℕ) → CutOff old new k → k ≤ end
    → count_below new end + count_within old k end ≡ count_below old end
bytes_cut old new k end c there =
    omega (
      arith,
      below_cut new k end there,
      below_cut old k end there,
      below_same new old k c.front,
      within_run new k end false (record { each = λ x low high. c.back x low }),
    )

pub areas_cut : (old new : ℕ → Bool) (k end : ℕ) → CutOff old new k → k ≤ end
    → count_below (begins_area new) end + count_within (begins_area old) k end ≡ count_below (begins_area old) end
areas_cut old new k end c there =
    bytes_cut (begins_area old) (begins_area new) k end
    (record {
      front = λ x lt. begins_same new old x (λ y le. c.front y (omega (arith, le, lt)));
      back = λ x le. begins_is new x ∙ ap (λ b. b && not (is_in_front new x)) (c.back x le);
    })
    there

-- if nothing of a set lies at a position or past it, it may be counted up to there
pub within_short : (f g : ℕ → Bool) (from top end : ℕ) → top ≤ end → ((x : ℕ) → x < top → f x ≡ g x)
    → ((x : ℕ) → top ≤ x → x < end → g x ≡ false) → count_within f from top ≡ count_within g from end
within_short f g from top end short same none =
    ⊎_elim
    (λ (le : from ≤ top).
    omega (
      arith,
      within_same f g from top (λ x low high. same x high),
      within_cut g from top end le short,
      within_run g top end false (record { each = none }),
    ))
    (λ (lt : top < from).
    omega (
      arith,
      within_most f from top,
      within_run g from end false (record { each = λ x low high. none x (omega (arith, low, lt)) high }),
    ))
    (⊎_elim (λ (lt : top < from). inr lt) (λ (le : from ≤ top). inl le) (cases_lt top from))
