-- What is taken off the front of a text, in as much as there is room for.
use Rattle.std.proofs.Common.{◌≡◌, ◌⊎◌, ℕ, ◌+◌, ◌-◌, ◌<◌, ◌≤◌, List, [], ◌++◌, length, take, drop, arith, sym, ap, ◌∙◌, inl, inr}
use Rattle.std.proofs.Math.Seq.{drop-append-add}
use Rattle.std.proofs.lemmas.List.{append-nil, take_all, drop_all, take-append-le, drop-append-le, take-append-drop, drop-drop, length-drop, take_at, drop_at}

-- a part that went already
pub took_none : (t rest : List ℕ) (went room : ℕ) → length t ≤ went
    → take room (drop went t) ++ drop (went - length t) rest ≡ drop went (t ++ rest)
took_none t rest went room h =
    let e : length t + (went - length t) ≡ went = omega arith in
    let f : drop went (t ++ rest) ≡ drop (went - length t) rest = ap (λ k. drop k (t ++ rest)) (sym e) ∙ drop-append-add t rest (went - length t) in
    let g : take room (drop went t) ≡ [] = rw (drop_all went t h) (take_all room [] (omega arith)) in
    rw g (sym f)

-- the whole rest of a part
pub took_whole : (t rest : List ℕ) (went room : ℕ) → went < length t → length t ≤ went + room
    → take room (drop went t) ++ rest ≡ drop went (t ++ rest)
took_whole t rest went room some fits =
    let e : take room (drop went t) ≡ drop went t = take_all room (drop went t) (omega (arith, length-drop went t)) in
    rw e (sym (drop-append-le went t rest (omega arith)))

-- as much of a part as there is room for
pub took_some : (t rest : List ℕ) (went room : ℕ) → went + room < length t
    → take room (drop went t) ++ drop (went + room) (t ++ rest) ≡ drop went (t ++ rest)
took_some t rest went room h =
    let x = drop went (t ++ rest) in
    let e : x ≡ drop went t ++ rest = drop-append-le went t rest (omega arith) in
    let f : take room x ≡ take room (drop went t) = ap (take room) e ∙ take-append-le room (drop went t) rest (omega (arith, length-drop went t)) in
    let g : drop room x ≡ drop (went + room) (t ++ rest) = drop-drop room went (t ++ rest) in
    rw (sym f, sym g) (take-append-drop room x)

-- what a piece has that is full, or after which nothing is left
pub piece_is : (out rest whole : List ℕ) (n : ℕ) → out ++ rest ≡ whole → length out ≤ n → (length out ≡ n) ⊎ (rest ≡ []) → out ≡ take n whole
piece_is out rest whole n e l (inl f) = sym (take_at out rest n f) ∙ ap (take n) e
piece_is out rest whole n e l (inr f) =
    let g : out ≡ whole = sym (append-nil out) ∙ ap (λ r. out ++ r) (sym f) ∙ e in
    sym (take_all n out l) ∙ ap (take n) g

pub rest_is : (out rest whole : List ℕ) (n : ℕ) → out ++ rest ≡ whole → length out ≤ n → (length out ≡ n) ⊎ (rest ≡ []) → rest ≡ drop n whole
rest_is out rest whole n e l (inl f) = sym (drop_at out rest n f) ∙ ap (drop n) e
rest_is out rest whole n e l (inr f) =
    let g : out ≡ whole = sym (append-nil out) ∙ ap (λ r. out ++ r) (sym f) ∙ e in
    f ∙ sym (drop_all n out l) ∙ ap (drop n) g
