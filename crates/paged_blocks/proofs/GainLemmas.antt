-- A mark adds at most two stretches to a map.
use Rattle.std.proofs.Common.{◌≡◌, ℕ, zero, suc, ◌+◌, ◌-◌, ◌≤◌, List, [], ◌∷◌, length, take, drop, replicate, ◌++◌, true, false, cond, refl, arith, ap, sym}
use Rattle.std.proofs.lemmas.List.{drop-drop}
use Rattle.block_list.specs.declared.status.Status.{Status}
use Rattle.block_list.specs.declared.status.Status.TheVariants.{NonTried}
use Rattle.block_list.specs.declared.block.Block.{Block}
use Rattle.block_list.specs.Status.{same}
use Rattle.block_list.specs.Map.{marked, extended}
use Rattle.block_list.specs.Stretches.{joined, stretches_from, stretches}
use Rattle.block_list.proofs.StretchLemmas.{same_self}

-- one if a status differs from the one in front of it
step : Status → Status → ℕ
step s t = cond (same s t) 0 1

step_few : (s t : Status) → step s t ≤ 1
unfolding step
step_few s t = elim (same s t) as (λ v. cond v 0 1 ≤ 1) [ true ↦ omega arith | false ↦ omega arith ]

step_self : (s : Status) → step s s ≡ 0
unfolding step
step_self s = rw (same_self s) refl

-- how many statuses of a list differ from the one in front of them, where another stands in front of all
changes : Status → List Status → ℕ
changes s [] = 0
changes s (t ∷ map) = step s t + changes t map

pieces : List Status → ℕ
pieces [] = 0
pieces (s ∷ map) = suc (changes s map)

-- a status in front of a list that begins with another adds a stretch where the two differ
joined_more : (p q : ℕ) (s t : Status) (bs : List Block) → length (joined p s (joined q t bs)) ≡ step s t + length (joined q t bs)
unfolding step
joined_more p q s t [] =
    let one : List Block = record { pos = p; size = 2; status = s } ∷ [] in
    let two : List Block = record { pos = p; size = 1; status = s } ∷ record { pos = q; size = 1; status = t } ∷ [] in
    elim (same s t) as (λ v. length (cond v one two) ≡ cond v 0 1 + 1) [ true ↦ refl | false ↦ refl ]
joined_more p q s t (b ∷ bs) =
    let wide : List Block = record { pos = q; size = b.size + 1; status = t } ∷ bs in
    let apart : List Block = record { pos = q; size = 1; status = t } ∷ b ∷ bs in
    let one : List Block = record { pos = p; size = b.size + 1 + 1; status = s } ∷ bs in
    let two : List Block = record { pos = p; size = 1; status = s } ∷ wide in
    let three : List Block = record { pos = p; size = 2; status = s } ∷ b ∷ bs in
    let four : List Block = record { pos = p; size = 1; status = s } ∷ apart in
    let first : length (cond (same s t) one two) ≡ cond (same s t) 0 1 + suc (length bs) =
    elim (same s t) as (λ v. length (cond v one two) ≡ cond v 0 1 + suc (length bs)) [ true ↦ omega arith | false ↦ omega arith ] in
    let second : length (cond (same s t) three four) ≡ cond (same s t) 0 1 + suc (suc (length bs)) =
    elim (same s t) as (λ v. length (cond v three four) ≡ cond v 0 1 + suc (suc (length bs))) [ true ↦ omega arith | false ↦ omega arith ] in
    elim (same t b.status) as (λ w. length (joined p s (cond w wide apart)) ≡ cond (same s t) 0 1 + length (cond w wide apart))
    [ true ↦ first | false ↦ second ]

pieces_of : (p : ℕ) (map : List Status) → length (stretches_from p map) ≡ pieces map
unfolding pieces changes
pieces_of p [] = refl
pieces_of p (s ∷ []) = refl
pieces_of p (s ∷ t ∷ map) =
    omega (arith, joined_more p (p + 1) s t (stretches_from (p + 1 + 1) map), pieces_of (p + 1) (t ∷ map))

changes_few : (s : Status) (map : List Status) → changes s map ≤ pieces map
unfolding pieces changes
changes_few s [] = omega arith
changes_few s (t ∷ map) = omega (arith, step_few s t)

pieces_few : (s : Status) (map : List Status) → pieces map ≤ changes s map + 1
unfolding pieces changes
pieces_few s [] = omega arith
pieces_few s (t ∷ map) = omega arith

changes-append : (s : Status) (xs ys : List Status) → changes s (xs ++ ys) ≤ changes s xs + pieces ys
unfolding changes
changes-append s [] ys = omega (arith, changes_few s ys)
changes-append s (t ∷ xs) ys = omega (arith, changes-append t xs ys)

pieces-append : (xs ys : List Status) → pieces (xs ++ ys) ≤ pieces xs + pieces ys
unfolding pieces
pieces-append [] ys = omega arith
pieces-append (s ∷ xs) ys = omega (arith, changes-append s xs ys)

changes-replicate : (n : ℕ) (s : Status) → changes s (replicate n s) ≡ 0
unfolding changes
changes-replicate zero s = refl
changes-replicate (suc n) s = omega (arith, step_self s, changes-replicate n s)

pieces-replicate : (n : ℕ) (s : Status) → pieces (replicate n s) ≤ 1
unfolding pieces
pieces-replicate zero s = omega arith
pieces-replicate (suc n) s = omega (arith, changes-replicate n s)

changes_parts : (s : Status) (i : ℕ) (map : List Status) → changes s (take i map) + pieces (drop i map) ≤ changes s map + 1
unfolding changes pieces
changes_parts s zero [] = omega arith
changes_parts s zero (t ∷ map) = omega arith
changes_parts s (suc i) [] = omega arith
changes_parts s (suc i) (t ∷ map) = omega (arith, changes_parts t i map)

pieces_parts : (i : ℕ) (map : List Status) → pieces (take i map) + pieces (drop i map) ≤ pieces map + 1
unfolding pieces
pieces_parts zero [] = omega arith
pieces_parts zero (s ∷ map) = omega arith
pieces_parts (suc i) [] = omega arith
pieces_parts (suc i) (s ∷ map) = omega (arith, changes_parts s i map)

pieces-drop : (i : ℕ) (map : List Status) → pieces (drop i map) ≤ pieces map
unfolding pieces
pieces-drop zero map = omega arith
pieces-drop (suc i) [] = omega arith
pieces-drop (suc i) (s ∷ map) = omega (arith, pieces-drop i map, pieces_few s map)

pub marked_pieces : (map : List Status) (pos size : ℕ) (s : Status)
    → length (stretches (marked map pos size s)) ≤ length (stretches map) + 2
marked_pieces map pos size s =
    let back : List Status = drop (pos + size) map in
    let e : pieces back ≡ pieces (drop size (drop pos map)) = ap pieces (sym (drop-drop size pos map)) in
    let m : pieces (marked map pos size s) ≤ pieces (take pos map ++ replicate size s) + pieces back =
    pieces-append (take pos map ++ replicate size s) back in
    omega (
      arith,
      pieces_of 0 map,
      pieces_of 0 (marked map pos size s),
      pieces-append (take pos map) (replicate size s),
      pieces-replicate size s,
      pieces-drop size (drop pos map),
      pieces_parts pos map,
      e,
    )

pub extended_pieces : (map : List Status) (end : ℕ) → length (stretches (extended map end)) ≤ length (stretches map) + 1
extended_pieces map end =
    let m : pieces (extended map end) ≤ pieces map + pieces (replicate (end - length map) NonTried) =
    pieces-append map (replicate (end - length map) NonTried) in
    omega (
      arith,
      pieces_of 0 map,
      pieces_of 0 (extended map end),
      pieces-replicate (end - length map) NonTried,
    )
