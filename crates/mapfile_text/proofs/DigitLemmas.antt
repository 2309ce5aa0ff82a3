-- Digits, written from the last one on over zeros.
use Rattle.std.proofs.Common.{◌≡◌, ℕ, zero, suc, ◌+◌, ◌-◌, ◌/◌, ◌%◌, ◌^◌, ◌<◌, ◌≤◌, min, Bool, true, false, cond, nat_eq, List, [], ◌∷◌, ◌++◌, replicate, length, take, drop, set, arith, ◌⊎◌, ⊎_elim, refl, sym, ap, ◌∙◌, length-append}
use Rattle.std.specs.Fmt.{digits, digits_onto, digit_glyph, decimal}
use Rattle.std.proofs.lemmas.Bool.Decides.{nat_tests}
use Rattle.std.proofs.Math.Nat.{pow-suc, pow-zero}
use Rattle.std.proofs.lemmas.List.{length-replicate, take_all, drop-replicate, take-replicate, take-take, take-set-le, drop-set, drop-append-le, take-append-drop, length-drop}
use Rattle.std.proofs.lemmas.Fmt.{length-decimal-le}
use Rattle.mapfile_text.specs.Printed.{at_least_eight}
use Rattle.mapfile_text.proofs.PieceLemmas.{below_or_not}

pub digits_onto_nil : (base n : ℕ) → digits_onto 64 base true n [] ≡ digits base true n
unfolding digits
digits_onto_nil base n = refl

pub digits_onto_more : (base n : ℕ) (acc : List ℕ) (i : ℕ) → 0 < i → (n / base ≡ 0 → ⊥)
    → digits_onto i base true n acc ≡ digits_onto (i - 1) base true (n / base) (digit_glyph true (n % base) ∷ acc)
digits_onto_more base n acc zero h e = absurd (omega arith)
digits_onto_more base n acc (suc k) h e =
    let f : nat_eq (n / base) 0 ≡ false = grind (arith, nat_tests) in
    let g : suc k - 1 ≡ k = omega arith in
    rw (f, g) refl

-- a digit goes in front of those that were written, and there is one zero less in front of it
pub front_digit : (out : List ℕ) (i x g : ℕ) → 0 < i → i ≤ length out → x ≡ g → drop (i - 1) (set out (i - 1) x) ≡ g ∷ drop i out
front_digit out i x g h k e =
    let f : i - 1 + 1 ≡ i = omega arith in
    drop-set out (i - 1) x (omega arith) ∙ ap (λ y. y ∷ drop (i - 1 + 1) out) e ∙ ap (λ j. g ∷ drop j out) f

pub front_zeros : (out : List ℕ) (i x : ℕ) → take i out ≡ replicate i 48 → take (i - 1) (set out (i - 1) x) ≡ replicate (i - 1) 48
front_zeros out i x z =
    take-set-le (i - 1) out (i - 1) x (omega arith) ∙ sym (take-take (i - 1) i out (omega arith))
    ∙ ap (take (i - 1)) z ∙ take-replicate (i - 1) i 48 (omega arith)

padded_few : (out : List ℕ) (begin : ℕ) → length out ≡ 64 → begin ≤ 64 → take begin out ≡ replicate begin 48 → 56 < begin
    → drop (min begin 56) out ≡ at_least_eight (drop begin out)
padded_few out begin l b z h =
    let e : min begin 56 ≡ 56 = omega arith in
    let f : replicate begin 48 ++ drop begin out ≡ out = rw (sym z) (take-append-drop begin out) in
    let g : 8 - length (drop begin out) ≡ begin - 56 = omega (arith, length-drop begin out) in
    rw (e, g)
    (ap (drop 56) (sym f) ∙ drop-append-le 56 (replicate begin 48) (drop begin out) (omega (arith, length-replicate {A = ℕ} begin 48))
    ∙ ap (λ r. r ++ drop begin out) (drop-replicate 56 begin 48))

padded_many : (out : List ℕ) (begin : ℕ) → length out ≡ 64 → begin ≤ 56 → drop (min begin 56) out ≡ at_least_eight (drop begin out)
padded_many out begin l b =
    let e : min begin 56 ≡ begin = omega arith in
    let g : 8 - length (drop begin out) ≡ 0 = omega (arith, length-drop begin out) in
    rw (e, g) refl

-- zeros in front of digits, so that they are at least eight
pub padded_after : (out : List ℕ) (begin : ℕ) → length out ≡ 64 → begin ≤ 64 → take begin out ≡ replicate begin 48
    → drop (min begin 56) out ≡ at_least_eight (drop begin out)
padded_after out begin l b z = ⊎_elim (λ h. padded_few out begin l b z h) (λ h. padded_many out begin l h) (below_or_not 56 begin)

-- what a slice from a place on is
pub slice_from : (out : List ℕ) (begin : ℕ) → length out ≡ 64 → take (64 - begin) (drop begin out) ≡ drop begin out
slice_from out begin l = take_all (64 - begin) (drop begin out) (omega (arith, length-drop begin out))

glyph_same : (d : ℕ) → d < 10 → digit_glyph true d ≡ digit_glyph false d
glyph_same d h = grind (arith, nat_tests)

onto_same : (k n : ℕ) (acc : List ℕ) → digits_onto k 10 true n acc ≡ digits_onto k 10 false n acc
onto_same zero n acc = refl
onto_same (suc k) n acc =
    let e = glyph_same (n % 10) (omega arith) in
    rw (e, onto_same k (n / 10) (digit_glyph false (n % 10) ∷ acc)) refl

pub decimal_digits : (n : ℕ) → digits 10 true n ≡ decimal n
unfolding digits
decimal_digits n = onto_same 64 n []

length_onto : (k j n : ℕ) (acc : List ℕ) → n < 16 ^ suc j → length (digits_onto k 16 true n acc) ≤ suc j + length acc
length_onto zero j n acc h = omega arith
length_onto (suc k) zero n acc h =
    let e : n / 16 ≡ 0 = omega (arith, pow-suc 16 0, pow-zero 16) in
    rw e (omega arith)
length_onto (suc k) (suc j) n acc h =
    let small : n / 16 < 16 ^ suc j = omega (arith, pow-suc 16 (suc j)) in
    let more = length_onto k j (n / 16) (digit_glyph true (n % 16) ∷ acc) small in
    by (nat_eq (n / 16) 0) more
  where
    by : (b : Bool) → length (digits_onto k 16 true (n / 16) (digit_glyph true (n % 16) ∷ acc)) ≤ suc j + suc (length acc)
        → length (cond b (digit_glyph true (n % 16) ∷ acc) (digits_onto k 16 true (n / 16) (digit_glyph true (n % 16) ∷ acc))) ≤ suc (suc j) + length acc
    by true m = omega arith
    by false m = omega arith

length_digits : (n : ℕ) → n < 2 ^ 64 → length (digits 16 true n) ≤ 16
length_digits n h =
    let e : length (digits_onto 64 16 true n []) ≤ 16 = length_onto 64 15 n [] h in
    rw (sym (digits_onto_nil 16 n)) e

length_at_least_eight : (ds : List ℕ) → length ds ≤ 16 → length (at_least_eight ds) ≤ 16
length_at_least_eight ds h = simp (length-append, length-replicate) (omega arith)

pub length_hexadecimal : (n : ℕ) → n < 2 ^ 64 → length (at_least_eight (digits 16 true n)) ≤ 16
length_hexadecimal n h = length_at_least_eight (digits 16 true n) (length_digits n h)

pub length_decimal : (n : ℕ) → n < 2 ^ 64 → length (decimal n) ≤ 20
length_decimal n h = length-decimal-le 20 n (omega arith) (omega arith) h
