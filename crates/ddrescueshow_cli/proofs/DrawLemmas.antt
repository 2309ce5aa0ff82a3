-- What each turn of a loop adds to a text.
use Rattle.std.proofs.Common.{◌≡◌, ℕ, zero, suc, ◌+◌, ◌≤◌, List, [], ◌∷◌, ◌++◌, replicate, sym, ap, ◌∙◌, append_assoc, append-nil, arith}
use Rattle.std.specs.List.{flat_map, range_with_len}
use Rattle.std.proofs.lemmas.Grind.{flat_map-append}
use Rattle.std.proofs.lemmas.List.{replicate-append-replicate}

-- a piece that is added to a text after others
added : (front more piece now : List ℕ) → now ≡ front ++ more → now ++ piece ≡ front ++ (more ++ piece)
added front more piece now e = ap (λ (t : List ℕ). t ++ piece) e ∙ append_assoc front more piece

byte_added : (front now : List ℕ) (b n : ℕ) → now ≡ front ++ replicate n b
    → now ++ b ∷ [] ≡ front ++ replicate (n + 1) b
byte_added front now b n e =
    added front (replicate n b) (b ∷ []) now e
    ∙ ap (λ (t : List ℕ). front ++ t) (replicate-append-replicate n 1 b)

-- numbers, and the next one
range_more : (a n : ℕ) → range_with_len a (suc n) ≡ range_with_len a n ++ (a + n) ∷ []
range_more a zero = let z : a + 0 ≡ a = omega arith in ap (λ (k : ℕ). k ∷ []) (sym z)
range_more a (suc n) =
    let z : a + 1 + n ≡ a + suc n = omega arith in
    ap (λ (l : List ℕ). a ∷ l) (range_more (a + 1) n ∙ ap (λ (k : ℕ). range_with_len (a + 1) n ++ k ∷ []) z)

pub rows_are : (f : ℕ → List ℕ) (n : ℕ) → flat_map f (range_with_len 0 (n + 1)) ≡ flat_map f (range_with_len 0 n) ++ f n
rows_are f n =
    let s : n + 1 ≡ suc n = omega arith in
    let z : 0 + n ≡ n = omega arith in
    ap (λ (k : ℕ). flat_map f (range_with_len 0 k)) s
    ∙ ap (flat_map f) (range_more 0 n ∙ ap (λ (k : ℕ). range_with_len 0 n ++ k ∷ []) z)
    ∙ flat_map-append f (range_with_len 0 n) (n ∷ [])
    ∙ ap (λ (t : List ℕ). flat_map f (range_with_len 0 n) ++ t) (append-nil (f n))

row_added : (f : ℕ → List ℕ) (front now : List ℕ) (n : ℕ) → now ≡ front ++ flat_map f (range_with_len 0 n)
    → now ++ f n ≡ front ++ flat_map f (range_with_len 0 (n + 1))
row_added f front now n e =
    added front (flat_map f (range_with_len 0 n)) (f n) now e ∙ ap (λ (t : List ℕ). front ++ t) (sym (rows_are f n))

-- up to the last turn
pub bytes_to : (front now : List ℕ) (b done count : ℕ) → now ≡ front ++ replicate done b → count ≤ done → done ≤ count
    → now ≡ front ++ replicate count b
bytes_to front now b done count e all within =
    let same : done ≡ count = omega (arith, all, within) in
    e ∙ ap (λ (n : ℕ). front ++ replicate n b) same

-- a turn, by what it added
pub bytes_more : (front old now : List ℕ) (b n : ℕ) → old ≡ front ++ replicate n b → now ≡ old ++ b ∷ []
    → now ≡ front ++ replicate (n + 1) b
bytes_more front old now b n e is = is ∙ byte_added front old b n e

pub rows_more : (f : ℕ → List ℕ) (front old now : List ℕ) (n : ℕ) → old ≡ front ++ flat_map f (range_with_len 0 n)
    → now ≡ old ++ f n → now ≡ front ++ flat_map f (range_with_len 0 (n + 1))
rows_more f front old now n e is = is ∙ row_added f front old n e
