-- The pieces of a text.
use Rattle.std.proofs.Common.{◌≡◌, ℕ, zero, suc, ◌+◌, ◌*◌, ◌/◌, ◌<◌, ◌≤◌, List, [], ◌∷◌, ◌++◌, length, map, take, drop, Some, arith, refl, sym, ap, ◌∙◌, ◌⊎◌, inl, inr, ⊎_elim, Bool, true, false, not, nat_eq, MatchBool}
use Rattle.std.proofs.lemmas.Bool.{cases_order}
use Rattle.std.proofs.lemmas.Bool.Decides.{nat_tests}
use Rattle.std.specs.List.{concat, range_with_len, slice_get}
use Rattle.std.proofs.lemmas.List.{drop-drop, length-drop, length-take, take-append-drop, nil_from_length}
use Rattle.mapfile_text.specs.Pieces.{piece, pieces_of, AreTakenOff, InPieces}

pub below_or_not : (a b : ℕ) → (a < b) ⊎ (b ≤ a)
below_or_not a b = ⊎_elim (λ e. inr (omega arith)) (λ o. ⊎_elim (λ l. inl l) (λ g. inr (omega arith)) o) (cases_order a b)

next_piece : (text : List ℕ) (i : ℕ) → piece text (i + 1) ≡ piece (drop 4096 text) i
next_piece text i =
    let e : 4096 * (i + 1) ≡ 4096 + 4096 * i = omega arith in
    ap (λ n. take 4096 (drop n text)) e ∙ ap (take 4096) (sym (drop-drop (4096 * i) 4096 text))

next_pieces : (text : List ℕ) (m a : ℕ) → map (piece text) (range_with_len (a + 1) m) ≡ map (piece (drop 4096 text)) (range_with_len a m)
next_pieces text zero a = refl
next_pieces text (suc m) a =
    ap (λ p. p ∷ map (piece text) (range_with_len (a + 1 + 1) m)) (next_piece text a)
    ∙ ap (λ ps. piece (drop 4096 text) a ∷ ps) (next_pieces text m (a + 1))

pub no_piece : (text : List ℕ) → length text ≡ 0 → pieces_of text ≡ []
unfolding pieces_of
no_piece text e = rw e refl

pub piece_more : (text : List ℕ) → 0 < length text → pieces_of text ≡ take 4096 text ∷ pieces_of (drop 4096 text)
unfolding pieces_of
piece_more text some =
    let m : ℕ = (length (drop 4096 text) + 4095) / 4096 in
    let e : (length text + 4095) / 4096 ≡ suc m = omega (arith, length-drop 4096 text) in
    ap (λ n. map (piece text) (range_with_len 0 n)) e ∙ ap (λ ps. take 4096 text ∷ ps) (next_pieces text m 0)

pub taken_are_pieces : (ps : List (List ℕ)) (text : List ℕ) → AreTakenOff ps text → ps ≡ pieces_of text
taken_are_pieces [] text t = sym (no_piece text (ap length t))
taken_are_pieces (p ∷ ps) text t =
    ap (λ q. q ∷ ps) t.1 ∙ ap (λ qs. take 4096 text ∷ qs) (taken_are_pieces ps (drop 4096 text) t.2) ∙ sym (piece_more text t.0)

taken_within : (n : ℕ) (text : List ℕ) → length text ≤ n → AreTakenOff (pieces_of text) text
taken_within zero text l =
    let e : length text ≡ 0 = omega arith in
    rw (no_piece text e) (nil_from_length text e)
taken_within (suc n) text l = ⊎_elim
    (λ some. rw (piece_more text some) (some, refl, taken_within n (drop 4096 text) (omega (arith, length-drop 4096 text))))
    (λ none. let e : length text ≡ 0 = omega arith in rw (no_piece text e) (nil_from_length text e))
    (below_or_not 0 (length text))

pub pieces_are_taken : (text : List ℕ) → AreTakenOff (pieces_of text) text
pieces_are_taken text = taken_within (length text) text (omega arith)

together : (ps : List (List ℕ)) (text : List ℕ) → AreTakenOff ps text → concat ps ≡ text
together [] text t = sym t
together (p ∷ ps) text t = ap (λ q. q ++ concat ps) t.1 ∙ ap (λ r. take 4096 text ++ r) (together ps (drop 4096 text) t.2) ∙ take-append-drop 4096 text

some : (ps : List (List ℕ)) (text : List ℕ) → AreTakenOff ps text → (i : ℕ) (p : List ℕ) → slice_get ps i ≡ Some p → 0 < length p
some [] text t i p e = cc
some (q ∷ ps) text t zero p e =
    let f : p ≡ take 4096 text = cc (t.1, e) in
    omega (arith, ap length f, length-take 4096 text, t.0)
some (q ∷ ps) text t (suc i) p e = some ps (drop 4096 text) t.2 i p e

more_left : (ps : List (List ℕ)) (text : List ℕ) → AreTakenOff ps text → 0 < length ps → 0 < length text
more_left [] text t h = absurd (omega arith)
more_left (p ∷ ps) text t h = t.0

full : (ps : List (List ℕ)) (text : List ℕ) → AreTakenOff ps text → (i : ℕ) (p : List ℕ) → slice_get ps i ≡ Some p → i + 1 < length ps → length p ≡ 4096
full [] text t i p e h = cc
full (q ∷ ps) text t zero p e h =
    let f : p ≡ take 4096 text = cc (t.1, e) in
    let l = more_left ps (drop 4096 text) t.2 (omega arith) in
    omega (arith, ap length f, length-take 4096 text, length-drop 4096 text, l)
full (q ∷ ps) text t (suc i) p e h = full ps (drop 4096 text) t.2 i p e (omega arith)

pub in_pieces : (text : List ℕ) → InPieces (pieces_of text) text
in_pieces text =
    let t = pieces_are_taken text in
    record { together = together (pieces_of text) text t; some = some (pieces_of text) text t; full = full (pieces_of text) text t }

-- what a call of a printer gives, as the first of the pieces
pub piece_given : (empty : Bool) (left out rest : List ℕ) → out ≡ take 4096 left → rest ≡ drop 4096 left → empty ≡ nat_eq (length out) 0
    → MatchBool (not empty) (pieces_of left ≡ out ∷ pieces_of rest) (pieces_of left ≡ [])
piece_given true left out rest piece_is rest_is e =
    let l : length out ≡ 0 = grind (arith, nat_tests) in
    no_piece left (omega (arith, ap length piece_is, length-take 4096 left))
piece_given false left out rest piece_is rest_is e =
    let l : length out ≡ 0 → ⊥ = grind (arith, nat_tests) in
    let some : 0 < length left = omega (arith, ap length piece_is, length-take 4096 left) in
    piece_more left some ∙ ap (λ p. p ∷ pieces_of (drop 4096 left)) (sym piece_is) ∙ ap (λ r. out ∷ pieces_of r) (sym rest_is)
