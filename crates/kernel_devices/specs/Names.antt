-- How the kernel's tables print the names of files. For contracts and proofs: no promise uses it.
use Rattle.std.specs.Prelude.{ℕ, zero, suc, ◌+◌, ◌-◌, ◌*◌, Bool, ◌&&◌, nat_eq, nat_le, nat_lt, if◌then◌else◌, List, [], ◌∷◌, ◌++◌, codes, Option, Some, None}

-- a backslash and three octal digits stand for a byte
abbrev pub octal_byte : (mark high middle low : ℕ) → Option ℕ
octal_byte mark high middle low =
    if nat_eq mark 92 && nat_le 48 high && nat_lt high 52 && nat_le 48 middle && nat_lt middle 56 && nat_le 48 low
    && nat_lt low 56
    then Some ((high - 48) * 64 + (middle - 48) * 8 + (low - 48)) else None

-- the byte for which the front of a text stands
abbrev pub escaped_byte : List ℕ → Option ℕ
escaped_byte (mark ∷ high ∷ middle ∷ low ∷ rest) = octal_byte mark high middle low
escaped_byte (mark ∷ high ∷ middle ∷ []) = None
escaped_byte (mark ∷ high ∷ []) = None
escaped_byte (mark ∷ []) = None
escaped_byte [] = None

-- a byte that stands for itself, or the one for which it and the three that follow it stand
abbrev pub byte_of : Option ℕ → ℕ → ℕ
byte_of (Some byte) own = byte
byte_of None own = own

-- how many bytes that follow were taken with it
abbrev pub taken_with : Option ℕ → ℕ
taken_with (Some byte) = 3
taken_with None = 0

-- a text from which this number of bytes were taken, with a byte in place of each backslash and three octal digits
abbrev pub unescaped_after : (taken : ℕ) → List ℕ → List ℕ
unescaped_after taken [] = []
unescaped_after zero (own ∷ rest) =
    byte_of (escaped_byte (own ∷ rest)) own ∷ unescaped_after (taken_with (escaped_byte (own ∷ rest))) rest
unescaped_after (suc taken) (own ∷ rest) = unescaped_after taken rest

abbrev pub unescaped : List ℕ → List ℕ
unescaped text = unescaped_after 0 text

-- a space, a tab, a newline, a backslash and a number sign as the kernel prints them, and every other byte as it is
abbrev pub escape_of : ℕ → List ℕ
escape_of byte =
    if nat_eq byte 32 then codes "\\040" else
    if nat_eq byte 9 then codes "\\011" else
    if nat_eq byte 10 then codes "\\012" else
    if nat_eq byte 92 then codes "\\134" else
    if nat_eq byte 35 then codes "\\043" else byte ∷ []

-- a name as the kernel prints it
abbrev pub escaped : List ℕ → List ℕ
escaped [] = []
escaped (byte ∷ rest) = escape_of byte ++ escaped rest
