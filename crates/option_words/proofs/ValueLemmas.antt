-- What is known of a value that was read, and of parts of options and results.
use Rattle.std.proofs.Common.{◌≡◌, ℕ, ◌^◌, ◌<◌, ◌≤◌, List, [], ◌∷◌, take, drop, Option, Some, None, Result, Ok, Err, refl, arith}
use Rattle.std.proofs.lemmas.Bool.Decides.{nat_tests}
use Rattle.std.specs.Option.{option_map, ok_or, option_and_then}
use Rattle.std.specs.Result.{result_ok}
use Rattle.size_suffixes.specs.Number.{within, number}
use Rattle.size_suffixes.specs.Suffixed.{times, number_end}
use Rattle.size_suffixes.specs.Size.{size, size_factor}
use Rattle.size_suffixes.specs.declared.error.SizeError.{SizeError}
use Rattle.size_suffixes.specs.declared.error.SizeError.TheVariants.{Empty, BadDigit, BadSuffix, TooLarge}
use Rattle.option_words.specs.Values.{size_by, within_range}

pub map_part : {A B : Type 0} (f : A → B) (o : Option A) (y : B) → option_map f o ≡ Some y
    → (x : A) × (o ≡ Some x) × (f x ≡ y)
map_part f None y e = absurd (cc)
map_part f (Some x) y e = (x, refl, cc)

pub then_part : {A B : Type 0} (f : A → Option B) (o : Option A) (y : B) → option_and_then f o ≡ Some y
    → (x : A) × (o ≡ Some x) × (f x ≡ Some y)
then_part f None y e = absurd (cc)
then_part f (Some x) y e = (x, refl, e)

ok_part : {T E : Type 0} (r : Result T E) (x : T) → result_ok r ≡ Some x → r ≡ Ok x
ok_part (Ok y) x e = cc
ok_part (Err f) x e = absurd (cc)

pub or_part : {T E : Type 0} (o : Option T) (e : E) (x : T) → ok_or o e ≡ Ok x → o ≡ Some x
or_part (Some y) e x h = cc
or_part None e x h = absurd (cc)

within_below : (m n : ℕ) → within m ≡ Ok n → n < 2 ^ 63
within_below m n e = grind (arith, nat_tests)

times_below : (r : Result ℕ SizeError) (digits : List ℕ) (factor : Option ℕ) (n : ℕ) → times r digits factor ≡ Ok n
    → n < 2 ^ 63
times_below (Err TooLarge) digits None n e = absurd (cc)
times_below (Err TooLarge) digits (Some m) n e = within_below _ n e
times_below (Ok k) digits None n e = absurd (cc)
times_below (Ok k) digits (Some m) n e = within_below _ n e
times_below _ digits factor n e = absurd (cc)

size_below : (sector : ℕ) (text : List ℕ) (n : ℕ) → size sector text ≡ Ok n → n < 2 ^ 63
size_below sector [] n e = absurd (cc)
size_below sector (c ∷ cs) n e =
    let front = take (number_end (c ∷ cs)) (c ∷ cs) in
    times_below (number front) front (size_factor sector (drop (number_end (c ∷ cs)) (c ∷ cs))) n e

-- a size is below 2^63
pub size_by_below : (sector : ℕ) (value : Option (List ℕ)) (n : ℕ) → size_by sector value ≡ Some n → n < 2 ^ 63
size_by_below sector value n e =
    let p = then_part (λ text. result_ok (size sector text)) value n e in
    size_below sector p.0 n (ok_part (size sector p.0) n p.2)

-- a number that passed the test of a range is within it
pub in_range : (least most : ℕ) (m : Option ℕ) (n : ℕ) → option_and_then (within_range least most) m ≡ Some n
    → (least ≤ n) × (n ≤ most)
in_range least most None n e = absurd (cc)
in_range least most (Some k) n e = grind (arith, nat_tests)
