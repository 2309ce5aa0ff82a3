-- How a number is written: `0x` and hexadecimal digits of either case, `0` and octal digits, or decimal digits.
use Rattle.std.specs.Prelude.{ℕ, ◌+◌, ◌^◌, Bool, false, ◌&&◌, ◌||◌, not, List, [], ◌∷◌, length, drop, position, nat_eq, nat_lt, Option, Some, None, Result, Ok, Err, if◌then◌else◌}
use Rattle.std.specs.Char.{digit_value}
use Rattle.std.specs.Str.Parse.{digits_value}
use Rattle.size_suffixes.specs.declared.error.SizeError.{SizeError}
use Rattle.size_suffixes.specs.declared.error.SizeError.TheVariants.{Empty, BadDigit, TooLarge}

-- the text begins with `0x` or `0X`
abbrev pub is_hexadecimal : List ℕ → Bool
is_hexadecimal [] = false
is_hexadecimal (a ∷ []) = false
is_hexadecimal (a ∷ b ∷ rest) = nat_eq a 48 && (nat_eq b 120 || nat_eq b 88)

-- the text begins with `0`
abbrev pub is_octal : List ℕ → Bool
is_octal [] = false
is_octal (a ∷ rest) = nat_eq a 48

-- the base of a number by how its text begins
abbrev pub base_of : List ℕ → ℕ
base_of text = if is_hexadecimal text then 16 else if is_octal text then 8 else 10

-- where the digits of a number begin in its text
abbrev pub digits_at : List ℕ → ℕ
digits_at text = if is_hexadecimal text then 2 else 0

-- a byte is no digit in a base
abbrev pub is_no_digit : ℕ → ℕ → Bool
is_no_digit base c = not (nat_lt (digit_value c) base)

-- the digits of the text in its base, and what follows them
abbrev pub digits_of_text : List ℕ → List ℕ
digits_of_text text = drop (digits_at text) text

-- the value of a number, the sum of its digits times powers of the base
abbrev pub value : List ℕ → ℕ
value text = digits_value (base_of text) (digits_of_text text)

-- a well formed number below 2^63
abbrev pub within : ℕ → Result ℕ SizeError
within n = if nat_lt n (2 ^ 63) then Ok n else Err TooLarge

-- The number that a filled text is, or its fault, by the index among its digits of the first byte that is no digit. The
-- fault is the place of that byte (of the text's end if `0x` has no digit), or a value of 2^63 or more.
abbrev pub number_by : List ℕ → Option ℕ → Result ℕ SizeError
number_by text (Some k) = Err (BadDigit (digits_at text + k))
number_by text None =
    if nat_eq (length (digits_of_text text)) 0 then Err (BadDigit (digits_at text)) else within (value text)

-- The number that a text is, or its fault. The fault is an empty text, a byte that is no digit in its base, or a value
-- of 2^63 or more.
abbrev pub number : List ℕ → Result ℕ SizeError
number [] = Err Empty
number (c ∷ cs) = number_by (c ∷ cs) (position (is_no_digit (base_of (c ∷ cs))) (digits_of_text (c ∷ cs)))
