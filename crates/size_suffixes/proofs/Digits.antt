-- Digits in the base that a text begins with are its number.
use Rattle.std.proofs.Common.{◌≡◌, ℕ, ◌+◌, ◌<◌, ◌≤◌, ◌^◌, Bool, false, true, not, ◌&&◌, ◌||◌, cond, List, [], ◌∷◌, length, drop, take, get_or, Option, Some, None, Ok, Err, position, nat_eq, nat_lt, refl, ap, ◌∙◌, arith}
use Rattle.std.specs.Prelude.{IfSome}
use Rattle.std.specs.List.{prefix_len}
use Rattle.std.specs.Char.{digit_value}
use Rattle.std.specs.Str.Parse.{AllDigits, IsNumeral, digits_value}
use Rattle.std.proofs.lemmas.Bool.{ne_eqb, lt-ltb}
use Rattle.std.proofs.lemmas.Bool.Decides.{nat_tests}
use Rattle.std.proofs.lemmas.List.{length-take-le}
use Rattle.std.proofs.lemmas.Int.Digits.{digits_value-lt}
use Rattle.std.proofs.Math.Nat.{pow-le-pow_right}
use Rattle.size_suffixes.specs.Number.{number, number_by, within, value, base_of, digits_at, digits_of_text, is_no_digit}
use Rattle.size_suffixes.specs.declared.error.SizeError.TheVariants.{BadDigit, TooLarge}

is_digit : (base c : ℕ) → digit_value c < base → not (is_no_digit base c) ≡ true
is_digit base c h = rw (lt-ltb (digit_value c) base h) refl

all_digits : (base : ℕ) (ds : List ℕ) → AllDigits base ds → prefix_len (λ c. not (is_no_digit base c)) ds ≡ length ds
all_digits base [] d = refl
all_digits base (c ∷ cs) d =
    let more : ℕ = prefix_len (λ c. not (is_no_digit base c)) cs in
    let k : more ≡ length cs = all_digits base cs d.1 in
    ap (λ v. cond v (1 + more) 0) (is_digit base c d.0) ∙ omega arith

none_past_end : (n end : ℕ) → n ≡ end → cond (nat_lt n end) (Some n) None ≡ None
none_past_end n end e = let f : nat_lt n end ≡ false = grind (arith, nat_tests) in ap (λ v. cond v (Some n) None) f

-- among digits is no other byte
pub no_other : (base : ℕ) (ds : List ℕ) → AllDigits base ds → position (is_no_digit base) ds ≡ None
no_other base ds d = none_past_end (prefix_len (λ c. not (is_no_digit base c)) ds) (length ds) (all_digits base ds d)

-- digits in the base that the text begins with are its number
pub number_of_digits : (c : ℕ) (cs ds : List ℕ) (base n : ℕ) → base_of (c ∷ cs) ≡ base → digits_of_text (c ∷ cs) ≡ ds
    → IsNumeral base ds → digits_value base ds ≡ n → n < 2 ^ 63 → number (c ∷ cs) ≡ Ok n
number_of_digits c cs ds base n b t d v small =
    let text : List ℕ = c ∷ cs in
    let place : position (is_no_digit (base_of text)) (digits_of_text text) ≡ None = rw (b, t) (no_other base ds d.1) in
    let some : nat_eq (length (digits_of_text text)) 0 ≡ false = ne_eqb (length (digits_of_text text)) 0 (λ z. omega (arith, ap length t, d.0)) in
    let is : value text ≡ n = rw (b, t) v in
    let low : nat_lt n (2 ^ 63) ≡ true = lt-ltb n (2 ^ 63) small in
    ap (number_by text) place ∙ ap (λ v. cond v (Err (BadDigit (digits_at text))) (within (value text))) some
    ∙ ap within is ∙ ap (λ v. cond v (Ok n) (Err TooLarge)) low

-- decimal digits, of which the first isn't 0, are a number
pub decimal_number : (ds : List ℕ) (n : ℕ) → IsNumeral 10 ds → digits_value 10 ds ≡ n → 48 < get_or ds 0 0 → n < 2 ^ 63 → number ds ≡ Ok n
decimal_number [] n d v first small = absurd (omega arith)
decimal_number (c ∷ []) n d v first small =
    let no : nat_eq c 48 ≡ false = ne_eqb c 48 (λ e. omega arith) in
    number_of_digits c [] (c ∷ []) 10 n (ap (λ v. cond v 8 10) no) refl d v small
decimal_number (c ∷ e ∷ ds) n d v first small =
    let no : nat_eq c 48 ≡ false = ne_eqb c 48 (λ e. omega arith) in
    let mark : Bool = nat_eq e 120 || nat_eq e 88 in
    number_of_digits c (e ∷ ds) (c ∷ e ∷ ds) 10 n (ap (λ v. cond (v && mark) 16 (cond v 8 10)) no)
    (ap (λ v. drop (cond (v && mark) 2 0) (c ∷ e ∷ ds)) no) d v small

-- fewer than 18 decimal digits have a value below 10 ^ 17
pub value_is_small : (ds : List ℕ) (i : ℕ) → AllDigits 10 (take i ds) → i < length ds → length ds ≤ 18 → digits_value 10 (take i ds) < 10 ^ 17
value_is_small ds i d h few =
    let below = digits_value-lt 10 (take i ds) d in
    let long : length (take i ds) ≤ 17 = omega (arith, length-take-le i ds) in
    let more = pow-le-pow_right {n = 10} (omega arith) long in
    omega arith

-- the value of a few decimal digits is their number
pub few_digits : (ds : List ℕ) (r : Option ℕ) → 48 < get_or ds 0 0 → 0 < length ds → length ds ≤ 18
    → IfSome r (λ n. AllDigits 10 ds) → IfSome r (λ n. n ≡ digits_value 10 ds) → IfSome r (λ n. number ds ≡ Ok n)
few_digits ds None first some few d v = tt
few_digits ds (Some n) first some few d v =
    let below = digits_value-lt 10 ds d in
    let more = pow-le-pow_right {n = 10} (omega arith) few in
    let small : n < 2 ^ 63 = omega arith in
    let is : digits_value 10 ds ≡ n = omega arith in
    decimal_number ds n (some, d) is first small
