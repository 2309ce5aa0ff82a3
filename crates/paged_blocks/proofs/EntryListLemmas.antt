-- A list of entries with a gap.
use Rattle.std.proofs.Common.{◌≡◌, ℕ, zero, suc, ◌+◌, ◌-◌, ◌<◌, ◌≤◌, List, [], ◌∷◌, ◌++◌, length, take, drop, get_or, set, reverse, refl, arith, ap, sym, ◌∙◌, append_assoc, length-append, length-drop}
use Rattle.std.proofs.lemmas.List.{set-append_left, set-append_right, length-reverse, reverse-append, take-append-drop, take_at, drop_at, drop_more}

set_reverse : {X : Type 0} (ys : List X) (i j : ℕ) (y : X) → i + j + 1 ≡ length ys → set (reverse ys) i y ≡ reverse (set ys j y)
set_reverse [] i j y e = absurd (omega arith)
set_reverse (x ∷ ys) i zero y e =
    let n : length (reverse ys) ≡ i = omega (arith, length-reverse ys) in
    let z : i - i ≡ 0 = omega arith in
    ap (λ r. set r i y) (reverse-append (x ∷ []) ys) ∙ set-append_right (reverse ys) (x ∷ []) i i y n (omega arith)
    ∙ ap (λ k. reverse ys ++ set (x ∷ []) k y) z ∙ sym (reverse-append (y ∷ []) ys)
set_reverse (x ∷ ys) i (suc j) y e =
    ap (λ r. set r i y) (reverse-append (x ∷ []) ys)
    ∙ set-append_left (reverse ys) (x ∷ []) i y (omega (arith, length-reverse ys))
    ∙ ap (λ r. r ++ x ∷ []) (set_reverse ys i j y (omega arith)) ∙ sym (reverse-append (x ∷ []) (set ys j y))

pub set_past : {X : Type 0} (xs ys : List X) (k : ℕ) (y : X) → length xs ≤ k → k < length xs + length ys
    → set (xs ++ reverse ys) k y ≡ xs ++ reverse (set ys (length ys - 1 - (k - length xs)) y)
set_past xs ys k y h l =
    set-append_right xs (reverse ys) (length xs) k y refl h
    ∙ ap (λ r. xs ++ r) (set_reverse ys (k - length xs) (length ys - 1 - (k - length xs)) y (omega arith))

-- one more element was passed from the end of a list to the end of another
pub passed_more : {X : Type 0} (from to old new : List X) (i : ℕ) (x : X) → i < length from → x ≡ get_or from i x
    → old ≡ to ++ reverse (drop (i + 1) from) → new ≡ old ++ x ∷ [] → new ≡ to ++ reverse (drop i from)
passed_more from to old new i x h e o n =
    let d : drop i from ≡ x ∷ drop (i + 1) from = rw (← e) at (drop_more from i x h) in
    n ∙ ap (λ r. r ++ x ∷ []) o ∙ append_assoc to (reverse (drop (i + 1) from)) (x ∷ [])
    ∙ ap (λ r. to ++ r) (sym (reverse-append (x ∷ []) (drop (i + 1) from)) ∙ ap reverse (sym d))

-- the gap was moved towards the back
parts : {X : Type 0} (xs ys : List X) (m : ℕ) → xs ++ reverse ys ≡ (xs ++ reverse (drop m ys)) ++ reverse (take m ys)
parts xs ys m =
    ap (λ r. xs ++ reverse r) (sym (take-append-drop m ys)) ∙ ap (λ r. xs ++ r) (reverse-append (take m ys) (drop m ys))
    ∙ sym (append_assoc xs (reverse (drop m ys)) (reverse (take m ys)))

front_len : {X : Type 0} (xs ys : List X) (k m : ℕ) → length xs ≤ k → m + (k - length xs) ≡ length ys
    → length (xs ++ reverse (drop m ys)) ≡ k
front_len xs ys k m h l =
    omega (arith, length-append xs (reverse (drop m ys)), length-reverse (drop m ys), length-drop m ys)

pub joined_front : {X : Type 0} (xs ys zs : List X) (k m : ℕ) → length xs ≤ k → m + (k - length xs) ≡ length ys
    → zs ≡ xs ++ reverse (drop m ys) → zs ≡ take k (xs ++ reverse ys)
joined_front xs ys zs k m h l e =
    e ∙ sym (ap (λ r. take k r) (parts xs ys m)
    ∙ take_at (xs ++ reverse (drop m ys)) (reverse (take m ys)) k (front_len xs ys k m h l))

pub joined_back : {X : Type 0} (xs ys : List X) (k m : ℕ) → length xs ≤ k → m + (k - length xs) ≡ length ys
    → reverse (take m ys) ≡ drop k (xs ++ reverse ys)
joined_back xs ys k m h l =
    sym (ap (λ r. drop k r) (parts xs ys m)
    ∙ drop_at (xs ++ reverse (drop m ys)) (reverse (take m ys)) k (front_len xs ys k m h l))
