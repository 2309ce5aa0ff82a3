-- Which rows are a table of options. For contracts, laws and proofs: no promise uses it.
use Rattle.std.specs.Prelude.{ℕ, Bool, true, false, not, ◌&&◌, List, [], ◌∷◌, length, Option, Some, None, nat_eq}
use Rattle.std.specs.Str.{bytes_eq}
use Rattle.std.specs.List.{list_all}
use Rattle.option_words.specs.declared.row.Row.{Row}

-- a letter may be an option's: any but the hyphen
abbrev pub letter_fits : Option ℕ → Bool
letter_fits None = true
letter_fits (Some c) = not (nat_eq c 45)

-- no byte is `=`
abbrev pub holds_no_sign : List ℕ → Bool
holds_no_sign bytes = list_all (λ b. not (nat_eq b 61)) bytes

-- a name may be an option's: any that isn't empty and holds no `=`
abbrev pub name_fits : List ℕ → Bool
name_fits name = not (nat_eq (length name) 0) && holds_no_sign name

-- two rows share a letter
abbrev pub share_letter : Option ℕ → Option ℕ → Bool
share_letter None other = false
share_letter (Some c) None = false
share_letter (Some c) (Some d) = nat_eq c d

-- two rows share neither their letter nor their name
abbrev pub share_nothing : Row → Row → Bool
share_nothing row other = not (share_letter row.short other.short) && not (bytes_eq row.long.now other.long.now)

-- a row has a letter and a name that may be an option's, and shares neither with the rows after it
abbrev pub fits_table : Row → List Row → Bool
fits_table row rows = letter_fits row.short && name_fits row.long.now && list_all (share_nothing row) rows

-- rows are a table of options: the letter and name of each may be an option's, and no two rows share either
abbrev pub is_table : List Row → Bool
is_table [] = true
is_table (row ∷ rows) = fits_table row rows && is_table rows
