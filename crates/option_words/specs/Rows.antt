-- Which row of a table an option means.
use Rattle.std.specs.Prelude.{ℕ, ◌+◌, Bool, true, false, List, [], ◌∷◌, Option, Some, None, nat_eq, count_by, if◌then◌else◌}
use Rattle.std.specs.Str.{bytes_eq}
use Rattle.std.specs.List.{starts_with}
use Rattle.option_words.specs.declared.row.Row.{Row}
use Rattle.option_words.specs.declared.row.Takes.{Takes}
use Rattle.option_words.specs.declared.row.Takes.TheVariants.{Never, Always, Optional}
use Rattle.option_words.specs.declared.choice.Chosen.{Chosen}
use Rattle.option_words.specs.declared.choice.Choice.{Choice}
use Rattle.option_words.specs.declared.choice.Choice.TheVariants.{One, Unknown, Several}

-- what a row means: its letter, its long name, and whether it takes a value
abbrev pub meaning_of_row : Row → Option ℕ × List ℕ × Takes
meaning_of_row row = (row.short, row.long.now, row.takes)

-- an option takes no value
abbrev pub is_alone : Takes → Bool
is_alone Never = true
is_alone Always = false
is_alone Optional = false

-- a letter is this one
abbrev pub is_letter : ℕ → Option ℕ → Bool
is_letter c None = false
is_letter c (Some d) = nat_eq d c

-- a row has this letter
abbrev pub has_letter : ℕ → Row → Bool
has_letter c row = is_letter c row.short

-- a row has this long name
abbrev pub has_name : List ℕ → Row → Bool
has_name name row = bytes_eq row.long.now name

-- the long name of a row begins with these bytes
abbrev pub begins_with : List ℕ → Row → Bool
begins_with front row = starts_with nat_eq row.long.now front

-- the first row that passes a test; rows are counted from k
abbrev pub first_row : (Row → Bool) → ℕ → List Row → Option Chosen
first_row passes k [] = None
first_row passes k (row ∷ rows) =
    if passes row then Some (record { row = k; takes = row.takes }) else first_row passes (k + 1) rows

-- the row that a long name means: the one of that name, otherwise the only one whose name begins with it
abbrev pub chosen_of : (named begun : Option Chosen) → (count : ℕ) → Choice
chosen_of (Some row) begun count = One row
chosen_of None None count = Unknown
chosen_of None (Some row) count = if nat_eq count 1 then One row else Several

-- the row that a long name means, by the rows of a table
abbrev pub chosen_by_name : List Row → List ℕ → Choice
chosen_by_name rows name =
    chosen_of (first_row (has_name name) 0 rows) (first_row (begins_with name) 0 rows)
    (count_by (begins_with name) rows)
