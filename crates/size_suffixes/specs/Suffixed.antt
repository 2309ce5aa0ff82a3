-- A number with a suffix that says by what it is multiplied.
use Rattle.std.specs.Prelude.{ℕ, ◌+◌, ◌*◌, List, [], ◌∷◌, length, take, drop, position, unwrap_or, Option, Some, None, Result, Ok, Err, if◌then◌else◌}
use Rattle.size_suffixes.specs.Number.{is_hexadecimal, digits_at, is_no_digit, digits_of_text, value, within, number}
use Rattle.size_suffixes.specs.declared.error.SizeError.{SizeError}
use Rattle.size_suffixes.specs.declared.error.SizeError.TheVariants.{Empty, BadDigit, BadSuffix, TooLarge}

-- the base of the digits that a number takes: an octal number takes 8 and 9 too, and is refused for them
abbrev pub taken_base : List ℕ → ℕ
taken_base text = if is_hexadecimal text then 16 else 10

-- where the number at the front of a text ends: it takes as many digits as it can
abbrev pub number_end : List ℕ → ℕ
number_end text = digits_at text
    + unwrap_or (position (is_no_digit (taken_base text)) (digits_of_text text)) (length (digits_of_text text))

-- a number times the factor that its suffix stands for, by what the number's text is; a fault of its digits comes first
abbrev pub times : Result ℕ SizeError → List ℕ → Option ℕ → Result ℕ SizeError
times (Err Empty) digits factor = Err (BadDigit 0)
times (Err (BadDigit k)) digits factor = Err (BadDigit k)
times (Err (BadSuffix k)) digits factor = Err (BadSuffix k)
times (Err TooLarge) digits None = Err (BadSuffix (length digits))
times (Err TooLarge) digits (Some m) = within (value digits * m)
times (Ok n) digits None = Err (BadSuffix (length digits))
times (Ok n) digits (Some m) = within (value digits * m)

-- what a text of a number and a suffix is: the number is the text's front, and the suffix all the rest
abbrev pub suffixed : (List ℕ → Option ℕ) → List ℕ → Result ℕ SizeError
suffixed factor_of [] = Err Empty
suffixed factor_of (c ∷ cs) = let end = number_end (c ∷ cs) in
    times (number (take end (c ∷ cs))) (take end (c ∷ cs)) (factor_of (drop end (c ∷ cs)))
