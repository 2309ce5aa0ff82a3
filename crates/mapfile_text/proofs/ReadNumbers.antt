-- A printed number, symbol or pass is read as what was printed.
use Rattle.std.proofs.Common.{◌≡◌, ℕ, zero, suc, ◌-◌, ◌<◌, ◌≤◌, ◌^◌, true, false, cond, List, [], ◌∷◌, ◌++◌, length, replicate, get_or, Some, None, nat_eq, refl, ap, ◌∙◌, arith, length-append}
use Rattle.std.specs.Str.Parse.{AllDigits, IsNumeral, digits_value}
use Rattle.std.specs.Fmt.{decimal, digits}
use Rattle.std.proofs.lemmas.Bool.{ne_eqb}
use Rattle.std.proofs.lemmas.Bool.Decides.{nat_tests}
use Rattle.std.proofs.lemmas.Str.Parse.{digit_from_value}
use Rattle.std.proofs.lemmas.Fmt.{digits_is_IsNumeral, decimal_is_IsNumeral, first_decimal}
use Rattle.size_suffixes.specs.Number.{base_of, digits_of_text}
use Rattle.size_suffixes.proofs.Digits.{number_of_digits, decimal_number}
use Rattle.block_list.specs.declared.status.Status.{Status}
use Rattle.block_list.specs.declared.status.Status.TheVariants.{NonTried}
use Rattle.block_list.specs.Status.{symbol}
use Rattle.mapfile_text.specs.declared.state.Current.{Current}
use Rattle.mapfile_text.specs.declared.state.Current.TheVariants.{Copying}
use Rattle.mapfile_text.specs.Fields.{numeral, numeral_by, current_of_symbol, begins_with_digit, above_zero, pass_of}
use Rattle.mapfile_text.specs.Printed.{hexadecimal, current_symbol}

-- digits in the base that the text begins with are a numeral
numeral_of_digits : (c : ℕ) (cs ds : List ℕ) (base n : ℕ) → base_of (c ∷ cs) ≡ base → digits_of_text (c ∷ cs) ≡ ds
    → IsNumeral base ds → digits_value base ds ≡ n → n < 2 ^ 63 → numeral (c ∷ cs) ≡ Some n
numeral_of_digits c cs ds base n b t d v small = ap (numeral_by (c ∷ cs)) (number_of_digits c cs ds base n b t d v small)

zeros_value : (k : ℕ) (ds : List ℕ) → digits_value 16 (replicate k 48 ++ ds) ≡ digits_value 16 ds
zeros_value zero ds = refl
zeros_value (suc k) ds = zeros_value k ds

zeros_digits : (k : ℕ) (ds : List ℕ) → AllDigits 16 ds → AllDigits 16 (replicate k 48 ++ ds)
zeros_digits zero ds d = d
zeros_digits (suc k) ds d = (omega arith, zeros_digits k ds d)

pub hexadecimal_is_read : (n : ℕ) → n < 2 ^ 63 → numeral (hexadecimal n) ≡ Some n
hexadecimal_is_read n small =
    let ds : List ℕ = digits 16 true n in
    let zeros : ℕ = 8 - length ds in
    let k : IsNumeral 16 ds × (digits_value 16 ds ≡ n) = digits_is_IsNumeral 16 true (omega arith) (omega arith) n (omega arith) in
    let some : 0 < length (replicate zeros 48 ++ ds) = omega (arith, length-append (replicate zeros 48) ds, k.0.0) in
    numeral_of_digits 48 (120 ∷ (replicate zeros 48 ++ ds)) (replicate zeros 48 ++ ds) 16 n refl refl
    (some, zeros_digits zeros ds k.0.1) (zeros_value zeros ds ∙ k.1) small

decimal_digits_are_read : (ds : List ℕ) (n : ℕ) → IsNumeral 10 ds → digits_value 10 ds ≡ n → 48 < get_or ds 0 0 → n < 2 ^ 63 → numeral ds ≡ Some n
decimal_digits_are_read ds n d v first small = ap (numeral_by ds) (decimal_number ds n d v first small)

begins_with : (ds : List ℕ) → IsNumeral 10 ds → begins_with_digit ds ≡ true
begins_with [] d = absurd (omega (arith, d.0))
begins_with (c ∷ cs) d = let k = digit_from_value c d.1.0 in grind (arith, nat_tests)

pub decimal_is_read : (n : ℕ) → 0 < n → n < 2 ^ 63 → numeral (decimal n) ≡ Some n
decimal_is_read n some small =
    let k = decimal_is_IsNumeral n (omega arith) in
    decimal_digits_are_read (decimal n) n k.0 k.1 (first_decimal n some (omega arith)) small

pub pass_is_read : (n : ℕ) → 0 < n → n < 2 ^ 63 → pass_of (decimal n ∷ []) ≡ Some n
pass_is_read n some small =
    let f : List ℕ = decimal n in
    let not_zero : nat_eq n 0 ≡ false = ne_eqb n 0 (λ e. omega arith) in
    ap (λ v. cond v (above_zero (numeral f)) (Some 1)) (begins_with f (decimal_is_IsNumeral n (omega arith)).0)
    ∙ ap above_zero (decimal_is_read n some small) ∙ ap (λ v. cond v None (Some n)) not_zero

pub current_is_read : (c : Current) → current_of_symbol (current_symbol c) ≡ Some c
current_is_read Copying = refl
current_is_read _ = refl

pub symbol_from : (s : Status) → 33 ≤ symbol s
symbol_from NonTried = omega arith
symbol_from _ = omega arith

pub current_symbol_from : (c : Current) → 33 ≤ current_symbol c
current_symbol_from Copying = omega arith
current_symbol_from _ = omega arith
