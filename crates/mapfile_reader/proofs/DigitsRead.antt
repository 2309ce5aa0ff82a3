-- A short hexadecimal number is read digit by digit.
use Rattle.std.proofs.Common.{◌≡◌, ℕ, zero, suc, ◌+◌, ◌<◌, ◌≤◌, ◌^◌, not, cond, List, [], ◌∷◌, length, drop, take, get_or, Option, Some, None, Ok, Err, position, refl, sym, ap, ◌∙◌, inl, inr, arith}
use Rattle.std.specs.Prelude.{IfSome, IfNone}
use Rattle.std.specs.Char.{digit_value}
use Rattle.std.specs.List.{position_or_len}
use Rattle.std.specs.Option.{option_map}
use Rattle.std.specs.Str.Parse.{AllDigits, digits_value}
use Rattle.std.proofs.lemmas.Bool.{ne_eqb, lt-ltb, le-ltb, cases_lt}
use Rattle.std.proofs.lemmas.List.{length-take-le}
use Rattle.std.proofs.lemmas.Int.Digits.{digits_value-lt}
use Rattle.std.proofs.Math.Nat.{pow-le-pow_right}
use Rattle.size_suffixes.specs.Number.{number_by, within, is_no_digit}
use Rattle.size_suffixes.specs.declared.error.SizeError.TheVariants.{BadDigit, TooLarge}
use Rattle.size_suffixes.proofs.Digits.{no_other}
use Rattle.mapfile_text.specs.Fields.{numeral, numeral_by}
use Rattle.mapfile_reader.specs.Reading.{capped}
use Rattle.mapfile_reader.proofs.LineLemmas.{position-none}

-- each of some digits is one
pub digit_at : (base : ℕ) (ds : List ℕ) (i : ℕ) → AllDigits base ds → i < length ds → digit_value (get_or ds i 0) < base
digit_at base [] i d h = absurd (omega arith)
digit_at base (c ∷ cs) zero d h = d.0
digit_at base (c ∷ cs) (suc i) d h = digit_at base cs i d.1 (omega arith)

-- fewer than 15 hexadecimal digits have a value below 16 ^ 14
pub value_is_small : (ds : List ℕ) (i : ℕ) → AllDigits 16 (take i ds) → i < length ds → length ds ≤ 15 → digits_value 16 (take i ds) < 16 ^ 14
value_is_small ds i d h few =
    let below = digits_value-lt 16 (take i ds) d in
    let long : length (take i ds) ≤ 14 = omega (arith, length-take-le i ds) in
    let more = pow-le-pow_right {n = 16} (omega arith) long in
    omega arith

-- bytes of which none is no digit are digits
all_from_none : (base : ℕ) (ds : List ℕ) → length ds ≤ position_or_len (is_no_digit base) ds → AllDigits base ds
all_from_none base [] h = tt
all_from_none base (c ∷ cs) h =
    elim (cases_lt (digit_value c) base) [
      | inl below ↦
          let e : position_or_len (is_no_digit base) (c ∷ cs) ≡ 1 + position_or_len (is_no_digit base) cs =
          ap (λ v. cond (not (not v)) (1 + position_or_len (is_no_digit base) cs) 0) (lt-ltb (digit_value c) base below) in
          (below, all_from_none base cs (omega (arith, e)))
      | inr above ↦
          let e : position_or_len (is_no_digit base) (c ∷ cs) ≡ 0 =
          ap (λ v. cond (not (not v)) (1 + position_or_len (is_no_digit base) cs) 0) (le-ltb (digit_value c) base above) in
          absurd (omega (arith, e))
    ]

-- the digits of a short hexadecimal number
numeral_by_digits : (ds : List ℕ) (r place : Option ℕ) → position (is_no_digit 16) ds ≡ place → 0 < length ds → length ds ≤ 15
    → IfSome r (λ n. AllDigits 16 ds) → IfSome r (λ n. n ≡ digits_value 16 ds) → IfNone r (AllDigits 16 ds → ⊥)
    → r ≡ option_map capped (numeral_by (48 ∷ 120 ∷ ds) (number_by (48 ∷ 120 ∷ ds) place))
numeral_by_digits ds None None p some few d v n = absurd (n (all_from_none 16 ds (position-none (is_no_digit 16) ds p)))
numeral_by_digits ds None (Some k) p some few d v n = refl
numeral_by_digits ds (Some x) (Some k) p some few d v n = let other = sym (no_other 16 ds d) ∙ p in absurd (cc)
numeral_by_digits ds (Some x) None p some few d v n =
    let text : List ℕ = 48 ∷ 120 ∷ ds in
    let below = digits_value-lt 16 ds d in
    let more = pow-le-pow_right {n = 16} (omega arith) few in
    let small : digits_value 16 ds < 2 ^ 63 = omega arith in
    let reads : number_by text None ≡ Ok (digits_value 16 ds) =
    ap (λ v. cond v (Err (BadDigit 2)) (within (digits_value 16 ds))) (ne_eqb (length ds) 0 (λ e. omega arith))
    ∙ ap (λ v. cond v (Ok (digits_value 16 ds)) (Err TooLarge)) (lt-ltb (digits_value 16 ds) (2 ^ 63) small) in
    let same : x ≡ capped (digits_value 16 ds) = omega arith in
    ap Some same ∙ sym (ap (λ r. option_map capped (numeral_by text r)) reads)

pub short_numeral : (field ds : List ℕ) (r : Option ℕ) → field ≡ 48 ∷ 120 ∷ ds → 0 < length ds → length ds ≤ 15
    → IfSome r (λ n. AllDigits 16 ds) → IfSome r (λ n. n ≡ digits_value 16 ds) → IfNone r (AllDigits 16 ds → ⊥)
    → r ≡ option_map capped (numeral field)
short_numeral field ds r e some few d v n =
    numeral_by_digits ds r (position (is_no_digit 16) ds) refl some few d v n ∙ ap (λ f. option_map capped (numeral f)) (sym e)

-- a field that begins with `0x`, and its digits
pub after_prefix : (xs : List ℕ) → 2 ≤ length xs → get_or xs 0 0 ≡ 48 → get_or xs 1 0 ≡ 120 → xs ≡ 48 ∷ 120 ∷ drop 2 xs
after_prefix [] h a b = absurd (omega arith)
after_prefix (x ∷ []) h a b = absurd (omega arith)
after_prefix (x ∷ y ∷ xs) h a b = cc
