-- A size: a number, then a multiplier or none, then `B` or nothing.
use Rattle.std.specs.Prelude.{ℕ, ◌^◌, Bool, true, false, ◌&&◌, List, [], ◌∷◌, nat_eq, Option, Some, None, Result, if◌then◌else◌}
use Rattle.size_suffixes.specs.Suffixed.{suffixed}
use Rattle.size_suffixes.specs.declared.error.SizeError.{SizeError}

-- nothing, or `B`
abbrev pub ends_size : List ℕ → Bool
ends_size [] = true
ends_size (c ∷ []) = nat_eq c 66
ends_size (c ∷ d ∷ rest) = false

-- the multipliers of one letter: `s`, `k`, `M`, `G`, `T`, `P` and `E`
abbrev pub multiplier : ℕ → ℕ → Option ℕ
multiplier sector c =
    if nat_eq c 115 then Some sector
    else if nat_eq c 107 then Some (10 ^ 3)
    else if nat_eq c 77 then Some (10 ^ 6)
    else if nat_eq c 71 then Some (10 ^ 9)
    else if nat_eq c 84 then Some (10 ^ 12)
    else if nat_eq c 80 then Some (10 ^ 15)
    else if nat_eq c 69 then Some (10 ^ 18)
    else None

-- the letters of the multipliers that end with `i`: `K`, `M`, `G`, `T`, `P` and `E`
abbrev pub binary_multiplier : ℕ → Option ℕ
binary_multiplier c =
    if nat_eq c 75 then Some (2 ^ 10)
    else if nat_eq c 77 then Some (2 ^ 20)
    else if nat_eq c 71 then Some (2 ^ 30)
    else if nat_eq c 84 then Some (2 ^ 40)
    else if nat_eq c 80 then Some (2 ^ 50)
    else if nat_eq c 69 then Some (2 ^ 60)
    else None

-- what follows the multiplier's letter: `i` or nothing, and then the end
abbrev pub letter_factor : ℕ → ℕ → List ℕ → Option ℕ
letter_factor sector c [] = multiplier sector c
letter_factor sector c (d ∷ rest) =
    if ends_size (d ∷ rest) then multiplier sector c
    else if nat_eq d 105 && ends_size rest then binary_multiplier c
    else None

-- the factor that what follows the number of a size stands for
abbrev pub size_factor : ℕ → List ℕ → Option ℕ
size_factor sector [] = Some 1
size_factor sector (c ∷ rest) = if ends_size (c ∷ rest) then Some 1 else letter_factor sector c rest

-- the size that a text is, in bytes, or its fault
abbrev pub size : ℕ → List ℕ → Result ℕ SizeError
size sector text = suffixed (size_factor sector) text
