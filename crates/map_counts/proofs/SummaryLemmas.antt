-- The lines of a summary, together.
use Rattle.std.proofs.Common.{◌≡◌, ℕ, ◌+◌, Bool, true, false, ◌&&◌, List, [], ◌∷◌, length, refl, arith}
use Rattle.std.specs.List.{count_by, range_with_len}
use Rattle.std.proofs.lemmas.List.Sums.{sum_by-cons}
use Rattle.block_list.specs.declared.status.Status.{Status}
use Rattle.block_list.specs.declared.status.Status.TheVariants.{NonTried, NonTrimmed, NonScraped, BadSector, Finished}
use Rattle.block_list.specs.Status.{same}
use Rattle.rescue_domain.proofs.SizeLemmas.{one_if}
use Rattle.map_counts.specs.At.{status_at}
use Rattle.map_counts.specs.Summary.{has_status}
use Rattle.map_counts.specs.Laws.{LinesAddUp}

-- what is counted of a list with one more number in front
pub count_first : (p : ℕ → Bool) (x : ℕ) (xs : List ℕ) → count_by p (x ∷ xs) ≡ one_if (p x) + count_by p xs
count_first p x xs = sum_by-cons (λ y. one_if (p y)) x xs

abbrev each_of : (Status → ℕ) → ℕ
each_of f = 0 + f NonTried + f NonTrimmed + f NonScraped + f BadSector + f Finished

-- a position has one status
one_status : (inside : Bool) (s : Status) → each_of (λ u. one_if (inside && same s u)) ≡ one_if inside
one_status true NonTried = refl
one_status false s = refl
one_status true _ = refl

added : (domain : ℕ → Bool) (statuses : List Status) (xs : List ℕ)
    → each_of (λ u. count_by (has_status domain statuses u) xs) ≡ count_by domain xs
added domain statuses [] = refl
added domain statuses (x ∷ xs) = omega (
  arith,
  count_first (has_status domain statuses NonTried) x xs,
  count_first (has_status domain statuses NonTrimmed) x xs,
  count_first (has_status domain statuses NonScraped) x xs,
  count_first (has_status domain statuses BadSector) x xs,
  count_first (has_status domain statuses Finished) x xs,
  count_first domain x xs,
  one_status (domain x) (status_at statuses x),
  added domain statuses xs,
)

pub lines_add_up : LinesAddUp
lines_add_up domain statuses = added domain statuses (range_with_len 0 (length statuses))
