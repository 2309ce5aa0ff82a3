-- An interval: a number, then a unit of time or nothing.
use Rattle.std.specs.Prelude.{ℕ, List, [], ◌∷◌, nat_eq, Option, Some, None, Result, if◌then◌else◌}
use Rattle.size_suffixes.specs.Suffixed.{suffixed}
use Rattle.size_suffixes.specs.declared.error.SizeError.{SizeError}

-- the seconds of a unit: `s`, `m`, `h` and `d`
abbrev pub unit : ℕ → Option ℕ
unit c =
    if nat_eq c 115 then Some 1
    else if nat_eq c 109 then Some 60
    else if nat_eq c 104 then Some 3600
    else if nat_eq c 100 then Some 86400
    else None

-- the factor that what follows the number of an interval stands for
abbrev pub interval_factor : List ℕ → Option ℕ
interval_factor [] = Some 1
interval_factor (c ∷ []) = unit c
interval_factor (c ∷ d ∷ rest) = None

-- the interval that a text is, in seconds, or its fault
abbrev pub interval : List ℕ → Result ℕ SizeError
interval text = suffixed interval_factor text
