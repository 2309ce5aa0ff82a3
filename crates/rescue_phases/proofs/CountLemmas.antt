-- How many positions of a map have a status.
use Rattle.std.proofs.Common.{◌≡◌, ℕ, zero, suc, ◌+◌, ◌<◌, ◌≤◌, if◌then◌else◌, List, [], ◌∷◌, Some, take, length-take, sym, ap, ◌∙◌, arith}
use Rattle.std.specs.List.{count_by}
use Rattle.std.proofs.lemmas.Bool.{cond-true, cond-false, cond_both}
use Rattle.std.proofs.lemmas.List.Sums.{sum_by-cons}
use Rattle.std.proofs.lemmas.Option.{same_Some, slice_get_within}
use Rattle.block_list.specs.declared.status.Status.{Status}
use Rattle.block_list.specs.Status.{same}
use Rattle.block_list.specs.Map.{Has}
use Rattle.block_list.proofs.StretchLemmas.{same_self, equal_from_same, other_same}
use Rattle.rescue_rules.proofs.MarkLemmas.{slice_get-take}

abbrev pub count : Status → List Status → ℕ
count u map = count_by (λ t. same t u) map

-- the count of one position
abbrev one : Status → Status → ℕ
one u t = if same t u then 1 else 0

count_more : (u t : Status) (map : List Status) → count u (t ∷ map) ≡ one u t + count u map
count_more u t map = sum_by-cons (one u) t map

one_is : (u t : Status) (map : List Status) → Has (t ∷ map) u 0 → one u t ≡ 1
one_is u t map has = cond-true (same t u) 1 0 (ap (λ (v : Status). same v u) (same_Some t u has) ∙ same_self u)

one_isnt : (u t : Status) (map : List Status) → (Has (t ∷ map) u 0 → ⊥) → one u t ≡ 0
one_isnt u t map other =
    cond-false (same t u) 1 0 (other_same t u (λ is. other (ap (λ (v : Status). Some v) is)))

one_less : (u a t : Status) (old new : List Status) → (Has (t ∷ new) u 0 → Has (a ∷ old) u 0) → one u t ≤ one u a
one_less u a t old new was =
    cond_both (same t u) 1 0 (λ (n : ℕ). n ≤ one u a)
    (λ on. omega (arith, one_is u a old (was (ap (λ (v : Status). Some v) (equal_from_same t u on)))))
    (λ off. omega arith)

-- A map whose positions with a status had it before has no more of them;
pub no_more : (u : Status) (old new : List Status) → ((x : ℕ) → Has new u x → Has old u x) → count u new ≤ count u old
no_more u old [] was = omega arith
no_more u [] (t ∷ new) was =
    let rest : count u new ≤ 0 = no_more u [] new (λ x has. was (suc x) has) in
    omega (arith, rest, count_more u t new, one_isnt u t new (λ has. let e = was 0 has in cc))
no_more u (a ∷ old) (t ∷ new) was =
    let rest : count u new ≤ count u old = no_more u old new (λ x has. was (suc x) has) in
    omega (arith, rest, count_more u t new, count_more u a old, one_less u a t old new (was 0))

-- and fewer, where another one had it.
pub fewer : (u : Status) (old new : List Status) (p : ℕ) → ((x : ℕ) → Has new u x → Has old u x) → Has old u p
    → (Has new u p → ⊥) → count u new < count u old
fewer u [] new p was has gone = absurd (cc)
fewer u (a ∷ old) [] zero was has gone = omega (arith, count_more u a old, one_is u a old has)
fewer u (a ∷ old) [] (suc p) was has gone = omega (arith, count_more u a old, fewer u old [] p (λ x has. absurd (cc)) has (λ has. cc))
fewer u (a ∷ old) (t ∷ new) zero was has gone =
    let rest : count u new ≤ count u old = no_more u old new (λ x has. was (suc x) has) in
    omega (arith, rest, count_more u t new, count_more u a old, one_is u a old has, one_isnt u t new gone)
fewer u (a ∷ old) (t ∷ new) (suc p) was has gone =
    let rest : count u new < count u old = fewer u old new p (λ x has. was (suc x) has) has gone in
    omega (arith, rest, count_more u t new, count_more u a old, one_less u a t old new (was 0))

-- The front of a map has what the map has there, and nothing else.
pub front_within : (k : ℕ) (map : List Status) (x : ℕ) (u : Status) → Has (take k map) u x → x < k
front_within k map x u has =
    omega (arith, slice_get_within (take k map) x u has, length-take k map)

pub front_has : (k : ℕ) (map : List Status) (x : ℕ) (u : Status) → x < k → Has map u x → Has (take k map) u x
front_has k map x u below has = slice_get-take k map x below ∙ has

pub front_had : (k : ℕ) (map : List Status) (x : ℕ) (u : Status) → Has (take k map) u x → Has map u x
front_had k map x u has = sym (slice_get-take k map x (front_within k map x u has)) ∙ has
