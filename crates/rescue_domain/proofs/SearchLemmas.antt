-- What a search among ascending intervals finds.
use Rattle.std.proofs.Common.{◌≡◌, ℕ, ◌-◌, ◌<◌, ◌≤◌, true, List, take, length, get_or, Some, min, max, ap, sym, ◌∙◌, arith, ⊎_elim}
use Rattle.std.specs.List.{slice_get}
use Rattle.std.proofs.lemmas.Bool.{cases_lt}
use Rattle.std.proofs.lemmas.List.{length-take-le, get_or-take}
use Rattle.std.proofs.lemmas.Option.{slice_get_within, slice_get-get_or, get_or_from_slice_get}
use Rattle.block_list.specs.declared.block.Range.{Range}
use Rattle.block_list.specs.Places.{IsFirst, IsLast, IsRangeUp, IsRangeDown}
use Rattle.rescue_domain.specs.Domain.{IsIn}
use Rattle.rescue_domain.specs.Parts.{covers, AreParts}
use Rattle.rescue_domain.proofs.PartsLemmas.{part_at, part_covers, part_with, gap_between}

-- where a covered position lies as seen from one interval: in one before it, in it, or in one after it
data Placed (parts : List Range) (n : ℕ) (part : Range) (x : ℕ) : Type 0 where
  in_front : (i : ℕ) (other : Range) → i < n → slice_get parts i ≡ Some other → x < other.to → other.to < part.from
      → Placed parts n part x
  inside : part.from ≤ x → x < part.to → Placed parts n part x
  past : (i : ℕ) (other : Range) → n < i → slice_get parts i ≡ Some other → other.from ≤ x → part.to < other.from
      → Placed parts n part x

-- of the interval with an index
module _ (parts : List Range) (n : ℕ) (part : Range) (t : AreParts 0 parts) (there : slice_get parts n ≡ Some part) where
  seen_from : (x : ℕ) → covers parts x ≡ true → Placed parts n part x
  seen_from x c =
      let k = part_with parts x c in
      ⊎_elim
      (λ (l : k.index < n).
      in_front k.index k.part l k.there k.ends (gap_between 0 parts k.index n k.part part t l k.there there))
      (λ (l : n ≤ k.index). ⊎_elim
      (λ (m : n < k.index).
      past k.index k.part m k.there k.begun (gap_between 0 parts n k.index part k.part t m there k.there))
      (λ (m : k.index ≤ n).
      let same : k.index ≡ n = omega arith in
      let read : slice_get parts n ≡ Some k.part = rw same at k.there in
      let one : k.part ≡ part = cc in
      inside (rw one at k.begun) (rw one at k.ends))
      (cases_lt n k.index))
      (cases_lt k.index n)

  pub found_first : (from : ℕ) → ((i : ℕ) (other : Range) → i < n → slice_get parts i ≡ Some other → other.to ≤ from)
      → from < part.to → IsFirst (IsIn (covers parts)) from (max from part.from)
  found_first from ended l =
      let k = part_at 0 parts n part t there in
      record {
        after = omega arith;
        holds = part_covers parts n (max from part.from) part there (omega arith) (omega (arith, k.some));
        least = λ x m c. elim (seen_from x c) [
          | in_front i other u f v w ↦ absurd (omega (arith, ended i other u f))
          | inside u v ↦ omega arith
          | past i other u f v w ↦ omega (arith, k.some)
        ];
      }

  pub found_range_up : (from : ℕ) → from < part.to → IsRangeUp (IsIn (covers parts)) (max from part.from) part.to
  found_range_up from l =
      let k = part_at 0 parts n part t there in
      record {
        begun = omega (arith, k.some);
        within = λ x m u. part_covers parts n x part there (omega arith) u;
        stops = λ c. elim (seen_from part.to c) [
          | in_front i other u f v w ↦ omega (arith, k.some)
          | inside u v ↦ omega arith
          | past i other u f v w ↦ omega arith
        ];
      }

  pub found_last : (before : ℕ)
      → ((i : ℕ) (other : Range) → n < i → slice_get parts i ≡ Some other → before ≤ other.from)
      → part.from < before → IsLast (IsIn (covers parts)) before (min before part.to)
  found_last before others l =
      let k = part_at 0 parts n part t there in
      record {
        below = omega arith;
        some = omega (arith, k.some);
        holds = part_covers parts n (min before part.to - 1) part there (omega (arith, k.some)) (omega (arith, k.some));
        greatest = λ x m c. elim (seen_from x c) [
          | in_front i other u f v w ↦ omega (arith, k.some)
          | inside u v ↦ omega arith
          | past i other u f v w ↦ absurd (omega (arith, others i other u f))
        ];
      }

  pub found_range_down : (before : ℕ) → part.from < before
      → IsRangeDown (IsIn (covers parts)) part.from (min before part.to)
  found_range_down before l =
      let k = part_at 0 parts n part t there in
      record {
        begun = omega (arith, k.some);
        within = λ x m u. part_covers parts n x part there m (omega arith);
        stops = λ x m c. elim (seen_from x c) [
          | in_front i other u f v w ↦ omega arith
          | inside u v ↦ omega arith
          | past i other u f v w ↦ omega (arith, k.some)
        ];
      }

pub none_from : (parts : List Range) (from n : ℕ)
    → ((i : ℕ) (other : Range) → i < n → slice_get parts i ≡ Some other → other.to ≤ from)
    → length parts ≤ n → (x : ℕ) → from ≤ x → IsIn (covers parts) x → ⊥
none_from parts from n ended l x m c =
    let k = part_with parts x c in
    let u : k.index < n = omega (arith, slice_get_within parts k.index k.part k.there) in
    omega (arith, ended k.index k.part u k.there, k.ends)

pub none_below : (parts : List Range) (before n : ℕ)
    → ((i : ℕ) (other : Range) → n ≤ i → slice_get parts i ≡ Some other → before ≤ other.from)
    → n ≤ length parts → length (take n parts) ≤ 0 → (x : ℕ) → x < before → IsIn (covers parts) x → ⊥
none_below parts before n others h l x m c =
    let k = part_with parts x c in
    let u : n ≤ k.index = omega (arith, length-take-le n parts h) in
    omega (arith, others k.index k.part u k.there, k.begun)

-- the last interval of the first n
pub record IsLastOf (parts : List Range) (n : ℕ) (part : Range) : Type 0 where
  pub some : 0 < n
  pub there : slice_get parts (n - 1) ≡ Some part

pub last_of_front : (parts : List Range) (n : ℕ) (part : Range) → n ≤ length parts
    → Some part ≡ slice_get (take n parts) (length (take n parts) - 1) → IsLastOf parts n part
last_of_front parts n part h e =
    let len = length-take-le n parts h in
    let read : slice_get (take n parts) (length (take n parts) - 1) ≡ Some part = sym e in
    let l : length (take n parts) - 1 < length (take n parts) = slice_get_within _ _ part read in
    let z : length (take n parts) - 1 ≡ n - 1 = omega arith in
    let there : get_or parts (n - 1) part ≡ part =
    sym (get_or-take n parts (n - 1) part (omega arith))
    ∙ get_or_from_slice_get (take n parts) (n - 1) part part (rw z at read) in
    record { some = omega arith; there = slice_get-get_or parts (n - 1) part (omega arith) ∙ ap Some there }
