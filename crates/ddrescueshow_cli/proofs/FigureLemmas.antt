-- The figures of a picture.
use Rattle.std.proofs.Common.{◌≡◌, ℕ, zero, suc, ◌+◌, ◌*◌, ◌/◌, ◌<◌, ◌≤◌, nat_eq, Bool, true, false, cond, ◌&&◌, List, [], ◌∷◌, length, refl, sym, ap, subst, ◌∙◌, ⊎_elim, arith}
use Rattle.std.specs.List.{count_by, range_with_len}
use Rattle.std.proofs.lemmas.Bool.{cases_lt}
use Rattle.std.proofs.lemmas.Bool.Decides.{nat_tests}
use Rattle.std.proofs.Math.Nat.{le-div_iff_mul-le, mul-div_left}
use Rattle.block_list.specs.declared.status.Status.{Status}
use Rattle.block_list.specs.declared.status.Status.TheVariants.{Finished}
use Rattle.block_list.specs.Status.{same}
use Rattle.rescue_domain.proofs.SizeLemmas.{one_if}
use Rattle.map_counts.specs.At.{status_at}
use Rattle.map_counts.specs.Summary.{summary_of}
use Rattle.map_algebra.proofs.MapLemmas.{finished_at}
use Rattle.map_counts.proofs.SummaryLemmas.{count_first}
use Rattle.ddrescueshow_cli.specs.Picture.{line_of}
use Rattle.ddrescueshow_cli.specs.Laws.{AllIsFinishedAt100}

fewer_if : (a b : Bool) → one_if (a && b) ≤ one_if a
fewer_if true true = omega arith
fewer_if true false = omega arith
fewer_if false b = omega arith

-- a part of a set has no more positions
count_part : (d q : ℕ → Bool) (xs : List ℕ) → count_by (λ x. d x && q x) xs ≤ count_by d xs
count_part d q [] = omega arith
count_part d q (x ∷ xs) = omega (
  arith,
  count_first (λ y. d y && q y) x xs,
  count_first d x xs,
  fewer_if (d x) (q x),
  count_part d q xs,
)

pub rescued_part : (domain : ℕ → Bool) (statuses : List Status)
    → (line_of (summary_of domain statuses) 4).bytes ≤ (summary_of domain statuses).domain
rescued_part domain statuses =
    count_part domain (λ x. same (status_at statuses x) Finished) (range_with_len 0 (length statuses))

-- a share is at most the whole
pub share_most : (rescued size : ℕ) → rescued ≤ size → 0 < size → rescued * 10000 / size ≤ 10000
share_most rescued size part some = ⊎_elim
    (λ (more : 10000 < rescued * 10000 / size).
    let all : 10001 * size ≤ rescued * 10000 = (le-div_iff_mul-le some).0 (omega (arith, more)) in
    absurd (omega (arith, all, part, some)))
    (λ (few : rescued * 10000 / size ≤ 10000). few)
    (cases_lt 10000 (rescued * 10000 / size))

whole_share : (rescued size : ℕ) (none : Bool) → nat_eq size 0 ≡ none → rescued ≤ size
    → cond none 10000 (rescued * 10000 / size) ≡ 10000 → rescued ≡ size
whole_share rescued size true is part e =
    let zero : size ≡ 0 = grind (arith, nat_tests, is) in omega (arith, zero, part)
whole_share rescued size false is part e =
    let some : 0 < size = grind (arith, nat_tests, is) in
    let all : 10000 * size ≤ rescued * 10000 = (le-div_iff_mul-le some).0 (omega (arith, e)) in
    omega (arith, all, part)

share_whole : (rescued size : ℕ) (none : Bool) → nat_eq size 0 ≡ none → rescued ≡ size
    → cond none 10000 (rescued * 10000 / size) ≡ 10000
share_whole rescued size true is same_size = refl
share_whole rescued size false is same_size =
    let some : 0 < size = grind (arith, nat_tests, is) in
    let turned : rescued * 10000 ≡ 10000 * size = omega (arith, same_size) in
    ap (λ (n : ℕ). n / size) turned ∙ mul-div_left 10000 some

one_both : (a b : Bool) (m n : ℕ) → m ≤ n → one_if (a && b) + m ≡ one_if a + n → (m ≡ n) × (a ≡ true → b ≡ true)
one_both true true m n le e = (omega (arith, e), λ is. refl)
one_both true false m n le e = absurd (omega (arith, e, le))
one_both false b m n le e = (omega (arith, e), λ is. absurd (cc))

-- a part that has as many positions as the set is all of it
all_counted : (d q : ℕ → Bool) (from n : ℕ)
    → count_by (λ x. d x && q x) (range_with_len from n) ≡ count_by d (range_with_len from n)
    → (x : ℕ) → from ≤ x → x < from + n → d x ≡ true → q x ≡ true
all_counted d q from zero e x low high is = absurd (omega (arith, low, high))
all_counted d q from (suc n) e x low high is =
    let b = one_both (d from) (q from) (count_by (λ y. d y && q y) (range_with_len (from + 1) n))
    (count_by d (range_with_len (from + 1) n)) (count_part d q (range_with_len (from + 1) n))
    (sym (count_first (λ y. d y && q y) from (range_with_len (from + 1) n)) ∙ e
    ∙ count_first d from (range_with_len (from + 1) n)) in
    ⊎_elim
    (λ (later : from < x).
    all_counted d q (from + 1) n b.0 x (omega (arith, later)) (omega (arith, high)) is)
    (λ (first : x ≤ from).
    let here : from ≡ x = omega (arith, low, first) in
    subst (λ (y : ℕ). d y ≡ true → q y ≡ true) here b.1 is)
    (cases_lt from x)

one_same : (a b : Bool) → (a ≡ true → b ≡ true) → one_if (a && b) ≡ one_if a
one_same true b all = ap one_if (all refl)
one_same false b all = refl

counted_all : (d q : ℕ → Bool) (xs : List ℕ) → ((x : ℕ) → d x ≡ true → q x ≡ true)
    → count_by (λ x. d x && q x) xs ≡ count_by d xs
counted_all d q [] all = refl
counted_all d q (x ∷ xs) all = omega (
  arith,
  count_first (λ y. d y && q y) x xs,
  count_first d x xs,
  one_same (d x) (q x) (all x),
  counted_all d q xs all,
)

pub all_finished_at_100 : AllIsFinishedAt100
all_finished_at_100 domain statuses within =
    let rescued : ℕ = (line_of (summary_of domain statuses) 4).bytes in
    let size : ℕ = (summary_of domain statuses).domain in
    let q : ℕ → Bool = λ x. same (status_at statuses x) Finished in (
      (λ e.
          let same_size : rescued ≡ size = whole_share rescued size (nat_eq size 0) refl (rescued_part domain statuses) e in
          record {
            each = λ x inside. finished_at statuses x
                ∙ all_counted domain q 0 (length statuses) same_size x (omega arith) (omega (arith, within x inside)) inside;
          }),
      (λ done.
          share_whole rescued size (nat_eq size 0) refl
          (counted_all domain q (range_with_len 0 (length statuses))
          (λ x inside. sym (finished_at statuses x) ∙ done.each x inside))),
    )
