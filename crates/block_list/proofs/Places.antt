-- Items at places of lists that are joined, and the length of a map after a mark.
use Rattle.std.proofs.Common.{◌≡◌, ℕ, zero, suc, ◌+◌, ◌-◌, ◌<◌, ◌≤◌, List, [], ◌∷◌, ◌++◌, length, replicate, Some, refl, arith, length-append, take, drop}
use Rattle.std.specs.List.{slice_get}
use Rattle.std.proofs.lemmas.List.{length-take-le, length-drop, length-replicate}
use Rattle.block_list.specs.declared.status.Status.{Status}
use Rattle.block_list.specs.Map.{marked}

pub slice_get-append_left : {A : Type 0} (xs ys : List A) (k : ℕ) → k < length xs
    → slice_get (xs ++ ys) k ≡ slice_get xs k
slice_get-append_left [] ys k h = absurd (omega (arith, h))
slice_get-append_left (x ∷ xs) ys zero h = refl
slice_get-append_left (x ∷ xs) ys (suc k) h = slice_get-append_left xs ys k (omega (arith, h))

pub slice_get-append_right : {A : Type 0} (xs ys : List A) (k : ℕ) → length xs ≤ k
    → slice_get (xs ++ ys) k ≡ slice_get ys (k - length xs)
slice_get-append_right [] ys k h = grind arith
slice_get-append_right (x ∷ xs) ys zero h = absurd (omega (arith, h))
slice_get-append_right (x ∷ xs) ys (suc k) h =
    let e = slice_get-append_right xs ys k (omega (arith, h)) in grind (arith, e)

pub slice_get-replicate : {A : Type 0} (n : ℕ) (y : A) (k : ℕ) → k < n → slice_get (replicate n y) k ≡ Some y
slice_get-replicate zero y k h = absurd (omega (arith, h))
slice_get-replicate (suc n) y zero h = refl
slice_get-replicate (suc n) y (suc k) h = slice_get-replicate n y k (omega (arith, h))

pub length-marked : (map : List Status) (pos size : ℕ) (s : Status) → pos + size ≤ length map
    → length (marked map pos size s) ≡ length map
length-marked map pos size s h =
    omega (
      arith,
      length-append (take pos map ++ replicate size s) (drop (pos + size) map),
      length-append (take pos map) (replicate size s),
      length-take-le pos map (omega arith),
      length-replicate size s,
      length-drop (pos + size) map,
    )
