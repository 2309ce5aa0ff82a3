-- Lists of block numbers: one a line.
use Rattle.std.specs.Prelude.{ℕ, ◌+◌, ◌*◌, ◌^◌, ◌<◌, List, [], ◌∷◌, nat_lt, length, Option, Some, None, Result, Ok, Err, option_and_then, if◌then◌else◌}
use Rattle.std.specs.Result.{result_ok}
use Rattle.size_suffixes.specs.Number.{number}
use Rattle.mapfile_text.specs.Lines.{Line, filled_lines}
use Rattle.map_algebra.specs.declared.shape.Shape.{Shape}
use Rattle.map_algebra.specs.declared.numbers.NumberError.{NumberError}
use Rattle.map_algebra.specs.declared.numbers.NumberError.TheVariants.{BadNumber}

-- the most bytes that a list may have: 2^28
abbrev pub list_limit : ℕ
list_limit = 268435456

-- the input position and the end in the output of a number's block add up to less than 2^63
abbrev pub IsInRange : Shape → ℕ → Type 0
IsInRange s k = k * s.size + s.size + s.ipos < 2 ^ 63

-- a number, if the input position and the end in the output of its block add up to less than 2^63
abbrev pub in_range : Shape → ℕ → Option ℕ
in_range s k = if nat_lt (k * s.size + s.size + s.ipos) (2 ^ 63) then Some k else None

-- the number of a line: its one field
abbrev pub number_in : Shape → (fields : List (List ℕ)) → Option ℕ
number_in s [] = None
number_in s (f ∷ []) = option_and_then (in_range s) (result_ok (number f))
number_in s (f ∷ g ∷ more) = None

-- a number before others, or the line that has none
abbrev pub in_front_of : (line : ℕ) → Option ℕ → Result (List ℕ) ℕ → Result (List ℕ) ℕ
in_front_of line None rest = Err line
in_front_of line (Some k) (Ok ks) = Ok (k ∷ ks)
in_front_of line (Some k) (Err other) = Err other

-- the numbers of lines, in their order, or the first of the lines that has none
abbrev pub numbers_of : Shape → List Line → Result (List ℕ) ℕ
numbers_of s [] = Ok []
numbers_of s (l ∷ ls) = in_front_of l.number (number_in s l.fields) (numbers_of s ls)

-- the numbers of a text, one a line, in their order, or the first line that isn't blank and has none; a comment is no
-- number
abbrev pub numbers_in : Shape → (text : List ℕ) → Result (List ℕ) ℕ
numbers_in s text = numbers_of s (filled_lines text)

-- how many numbers there are, or the fault of the line that has none
abbrev pub checked : Result (List ℕ) ℕ → Result ℕ NumberError
checked (Ok ks) = Ok (length ks)
checked (Err line) = Err (BadNumber line)
