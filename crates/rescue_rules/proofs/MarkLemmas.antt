-- What marks leave of a map.
use Rattle.std.proofs.Common.{◌≡◌, ◌⊎◌, ℕ, zero, suc, ◌+◌, ◌-◌, ◌<◌, ◌≤◌, List, [], ◌∷◌, ◌++◌, length, take, drop, replicate, refl, ap, ◌∙◌, arith, ⊎_elim, length-append}
use Rattle.std.specs.List.{slice_get}
use Rattle.std.proofs.lemmas.List.{length-take-le, length-replicate}
use Rattle.block_list.specs.declared.status.Status.{Status}
use Rattle.block_list.specs.Map.{Has, marked}
use Rattle.block_list.proofs.Places.{slice_get-append_left, slice_get-append_right, slice_get-replicate}
use Rattle.block_list.proofs.HeldLemmas.{slice_get-drop}

-- the front of a list has its elements
pub slice_get-take : {A : Type 0} (n : ℕ) (xs : List A) (k : ℕ) → k < n → slice_get (take n xs) k ≡ slice_get xs k
slice_get-take zero xs k h = absurd (omega (arith, h))
slice_get-take (suc n) [] k h = refl
slice_get-take (suc n) (x ∷ xs) zero h = refl
slice_get-take (suc n) (x ∷ xs) (suc k) h = slice_get-take n xs k (omega (arith, h))

length-marked_front : (map : List Status) (pos size : ℕ) (t : Status) → pos + size ≤ length map
    → length (take pos map ++ replicate size t) ≡ pos + size
length-marked_front map pos size t there =
    omega (
      arith,
      length-append (take pos map) (replicate size t),
      length-take-le pos map
          (omega arith),
      length-replicate size t,
    )

-- a position that is marked has that status
pub marked_inside : (map : List Status) (pos size : ℕ) (t : Status) (x : ℕ) → pos + size ≤ length map → pos ≤ x
    → x < pos + size → Has (marked map pos size t) t x
marked_inside map pos size t x there from to =
    let front : length (take pos map) ≡ pos = length-take-le pos map (omega arith) in
    let both : length (take pos map ++ replicate size t) ≡ pos + size = length-marked_front map pos size t there in
    slice_get-append_left (take pos map ++ replicate size t) (drop (pos + size) map) x (omega arith)
    ∙ slice_get-append_right (take pos map) (replicate size t) x (omega arith)
    ∙ slice_get-replicate size t (x - length (take pos map)) (omega arith)

-- and any other the one it had
pub marked_outside : (map : List Status) (pos size : ℕ) (t : Status) (x : ℕ) → pos + size ≤ length map
    → (x < pos) ⊎ (pos + size ≤ x) → slice_get (marked map pos size t) x ≡ slice_get map x
marked_outside map pos size t x there apart =
    let front : length (take pos map) ≡ pos = length-take-le pos map (omega arith) in
    let both : length (take pos map ++ replicate size t) ≡ pos + size = length-marked_front map pos size t there in
    ⊎_elim
    (λ (lt : x < pos). slice_get-append_left (take pos map ++ replicate size t) (drop (pos + size) map) x (omega arith)
    ∙ slice_get-append_left (take pos map) (replicate size t) x (omega arith) ∙ slice_get-take pos map x lt)
    (λ (le : pos + size ≤ x).
    let at : pos + size + (x - length (take pos map ++ replicate size t)) ≡ x = omega arith in
    slice_get-append_right (take pos map ++ replicate size t) (drop (pos + size) map) x (omega arith)
    ∙ slice_get-drop (pos + size) map (x - length (take pos map ++ replicate size t)) ∙ ap (λ i. slice_get map i) at)
    apart
