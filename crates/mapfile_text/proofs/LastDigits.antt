-- The last digits of a number, as many as are asked for.
use Rattle.std.proofs.Common.{◌≡◌, ℕ, zero, suc, ◌+◌, ◌-◌, ◌/◌, ◌%◌, ◌^◌, ◌<◌, ◌≤◌, true, List, [], ◌∷◌, ◌++◌, replicate, length, arith, ⊎_elim, refl, ap, ◌∙◌}
use Rattle.std.specs.Fmt.{digits, digits_onto, digit_glyph}
use Rattle.std.proofs.Math.Nat.{pow-suc, pow-zero}
use Rattle.mapfile_text.specs.Printed.{at_least_eight}
use Rattle.mapfile_text.proofs.DigitLemmas.{digits_onto_nil, digits_onto_more}
use Rattle.mapfile_text.proofs.PieceLemmas.{below_or_not}

-- the last hexadecimal digits of a number, in front of others
pub last_digits : ℕ → ℕ → List ℕ → List ℕ
last_digits zero n acc = acc
last_digits (suc k) n acc = last_digits k (n / 16) (digit_glyph true (n % 16) ∷ acc)

pub last_none : (k n : ℕ) (acc : List ℕ) → k ≡ 0 → last_digits k n acc ≡ acc
unfolding last_digits
last_none k n acc e = rw e refl

pub last_more : (k n : ℕ) (acc : List ℕ) → 0 < k → last_digits k n acc ≡ last_digits (k - 1) (n / 16) (digit_glyph true (n % 16) ∷ acc)
unfolding last_digits
last_more zero n acc h = absurd (omega arith)
last_more (suc k) n acc h = let g : suc k - 1 ≡ k = omega arith in rw g refl

zeros_front : (k : ℕ) (acc : List ℕ) → replicate k 48 ++ (48 ∷ acc) ≡ 48 ∷ (replicate k 48 ++ acc)
zeros_front zero acc = refl
zeros_front (suc k) acc = ap (λ ds. 48 ∷ ds) (zeros_front k acc)

last_zeros : (k : ℕ) (acc : List ℕ) → last_digits k 0 acc ≡ replicate k 48 ++ acc
unfolding last_digits
last_zeros zero acc = refl
last_zeros (suc k) acc = last_zeros k (48 ∷ acc) ∙ zeros_front k acc

-- the last digits of a number that has no more are its digits, after zeros
last_are : (fuel k n : ℕ) (acc : List ℕ) → n < 16 ^ k → k ≤ fuel → 0 < k
    → last_digits k n acc ≡ replicate (k + length acc - length (digits_onto fuel 16 true n acc)) 48 ++ digits_onto fuel 16 true n acc
unfolding last_digits
last_are zero k n acc small enough some = absurd (omega arith)
last_are (suc f) zero n acc small enough some = absurd (omega arith)
last_are (suc f) (suc k) n acc small enough some =
    let ds : List ℕ = digit_glyph true (n % 16) ∷ acc in
    ⊎_elim
    (λ more.
    let fuel : suc f - 1 ≡ f = omega arith in
    let is : digits_onto (suc f) 16 true n acc ≡ digits_onto f 16 true (n / 16) ds =
    digits_onto_more 16 n acc (suc f) (omega arith) (λ e. omega arith) ∙ ap (λ j. digits_onto j 16 true (n / 16) ds) fuel in
    let few : n / 16 < 16 ^ k = omega (arith, pow-suc 16 k) in
    let left : 0 < k = left_over k (n / 16) few more in
    let same : k + length ds ≡ suc k + length acc = omega arith in
    rw is (last_are f k (n / 16) ds few (omega arith) left
    ∙ ap (λ m. replicate (m - length (digits_onto f 16 true (n / 16) ds)) 48 ++ digits_onto f 16 true (n / 16) ds) same))
    (λ none.
    let z : n / 16 ≡ 0 = omega arith in
    let is : digits_onto (suc f) 16 true n acc ≡ ds = rw z refl in
    let zeros : suc k + length acc - length ds ≡ k = omega arith in
    rw (is, zeros) (ap (λ m. last_digits k m ds) z ∙ last_zeros k ds))
    (below_or_not 0 (n / 16))
  where
    left_over : (k m : ℕ) → m < 16 ^ k → 0 < m → 0 < k
    left_over zero m few more = absurd (omega (arith, pow-zero 16))
    left_over (suc k) m few more = omega arith

-- eight digits of a number that has no more are its digits, at least eight
pub eight_last : (n : ℕ) → n < 2 ^ 32 → last_digits 8 n [] ≡ at_least_eight (digits 16 true n)
eight_last n small =
    last_are 64 8 n [] (omega arith) (omega arith) (omega arith)
    ∙ ap (λ ds. replicate (8 + 0 - length ds) 48 ++ ds) (digits_onto_nil 16 n)
