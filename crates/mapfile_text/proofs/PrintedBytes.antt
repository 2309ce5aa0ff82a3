-- No byte of a printed word is white space, and none of a printed line is a newline.
use Rattle.std.proofs.Common.{◌≡◌, ℕ, ◌-◌, ◌<◌, ◌≤◌, ◌^◌, true, false, List, [], ◌∷◌, length, get_or, map, replicate, codes, nat_le, nat_eq, refl, arith}
use Rattle.std.specs.List.{All, list_all}
use Rattle.std.specs.Char.{digit_value}
use Rattle.std.specs.Str.Parse.{AllDigits}
use Rattle.std.specs.Fmt.{decimal, digits}
use Rattle.std.proofs.lemmas.Bool.Decides.{nat_tests}
use Rattle.std.proofs.lemmas.Fmt.{digits_is_IsNumeral, decimal_is_IsNumeral}
use Rattle.std.proofs.lemmas.List.Elements.{All-nil, All-cons, All-append, All-replicate, All-map, All-weaker}
use Rattle.std.proofs.lemmas.Bool.{and_parts}
use Rattle.mapfile_text.specs.Lines.{is_blank}
use Rattle.mapfile_text.specs.Printed.{at_least_eight, hexadecimal, shown_byte}

-- each byte is at least low
abbrev pub AllFrom : ℕ → List ℕ → Type 0
AllFrom low bs = All (λ b. low ≤ b) bs

from_le : (low b : ℕ) → nat_le low b ≡ true → low ≤ b
from_le low b h = grind (arith, nat_tests)

-- by a test that computes, for a text that is written out
pub from_test : (low : ℕ) (bs : List ℕ) → list_all (nat_le low) bs ≡ true → AllFrom low bs
from_test low [] h = All-nil (λ b. low ≤ b)
from_test low (b ∷ bs) h =
    let two = and_parts (nat_le low b) (list_all (nat_le low) bs) h in
    All-cons (λ b. low ≤ b) b bs (from_le low b two.0) (from_test low bs two.1)

pub from_lower : (low high : ℕ) (bs : List ℕ) → low ≤ high → AllFrom high bs → AllFrom low bs
from_lower low high bs l h = All-weaker (λ b. high ≤ b) (λ b. low ≤ b) (λ b k. omega arith) bs h

digit_from : (c : ℕ) → digit_value c < 16 → 33 ≤ c
digit_from c h = grind (arith, nat_tests)

digits_from : (base : ℕ) (ds : List ℕ) → base ≤ 16 → AllDigits base ds → AllFrom 33 ds
digits_from base [] l d = All-nil (λ b. 33 ≤ b)
digits_from base (c ∷ cs) l d = All-cons (λ b. 33 ≤ b) c cs (digit_from c (omega (arith, d.0))) (digits_from base cs l d.1)

pub decimal_from : (n : ℕ) → n < 2 ^ 64 → AllFrom 33 (decimal n)
decimal_from n h = digits_from 10 (decimal n) (omega arith) (decimal_is_IsNumeral n h).0.1

pub hexadecimal_from : (n : ℕ) → n < 2 ^ 63 → AllFrom 33 (hexadecimal n)
hexadecimal_from n h =
    let ds : List ℕ = digits 16 true n in
    let k : AllDigits 16 ds = (digits_is_IsNumeral 16 true (omega arith) (omega arith) n (omega arith)).0.1 in
    let zeros : AllFrom 33 (replicate (8 - length ds) 48) = All-replicate (λ b. 33 ≤ b) (8 - length ds) 48 (omega arith) in
    All-append (λ b. 33 ≤ b) (codes "0x") (at_least_eight ds) (from_test 33 (codes "0x") refl)
    (All-append (λ b. 33 ≤ b) (replicate (8 - length ds) 48) ds zeros (digits_from 16 ds (omega arith) k))

shown_from : (b : ℕ) → 11 ≤ shown_byte b
shown_from b = grind (arith, nat_tests)

pub shown_line_from : (line : List ℕ) → AllFrom 11 (map shown_byte line)
shown_line_from line = All-map (λ b. 11 ≤ b) shown_byte line (λ k d l. shown_from (get_or line k d))

no_newline : (b : ℕ) → 11 ≤ b → nat_eq b 10 ≡ false
no_newline b h = grind (arith, nat_tests)

no_blank : (b : ℕ) → 33 ≤ b → is_blank b ≡ false
no_blank b h = grind (arith, nat_tests)

pub no_newlines : (bs : List ℕ) → AllFrom 11 bs → All (λ b. nat_eq b 10 ≡ false) bs
no_newlines bs h = All-weaker (λ b. 11 ≤ b) (λ b. nat_eq b 10 ≡ false) no_newline bs h

pub no_blanks : (bs : List ℕ) → AllFrom 33 bs → All (λ b. is_blank b ≡ false) bs
no_blanks bs h = All-weaker (λ b. 33 ≤ b) (λ b. is_blank b ≡ false) no_blank bs h
