-- What a field of a mapfile's line says: a number, a status, a state or a block.
use Rattle.std.specs.Prelude.{ℕ, Bool, false, ◌&&◌, List, [], ◌∷◌, Option, Some, None, Result, Ok, Err, nat_eq, nat_le, if◌then◌else◌}
use Rattle.size_suffixes.specs.declared.error.SizeError.{SizeError}
use Rattle.size_suffixes.specs.declared.error.SizeError.TheVariants.{TooLarge}
use Rattle.size_suffixes.specs.Number.{number, value}
use Rattle.block_list.specs.declared.status.Status.{Status}
use Rattle.block_list.specs.declared.block.Block.{Block}
use Rattle.block_list.specs.Status.{status_of_symbol}
use Rattle.mapfile_text.specs.declared.state.Current.{Current}
use Rattle.mapfile_text.specs.declared.state.Current.TheVariants.{Copying, Trimming, Scraping, Retrying, Filling, Generating, Finished as Done}
use Rattle.mapfile_text.specs.declared.state.MapState.{MapState}

-- the number that a field is, however large, by how it was read, if it is one
abbrev pub numeral_by : List ℕ → Result ℕ SizeError → Option ℕ
numeral_by field (Ok n) = Some n
numeral_by field (Err TooLarge) = Some (value field)
numeral_by field (Err e) = None

-- the number that a field is, however large, if it is one
abbrev pub numeral : List ℕ → Option ℕ
numeral field = numeral_by field (number field)

-- the status that a field spells, one of ? * / - +
abbrev pub status_of_field : List ℕ → Option Status
status_of_field (c ∷ []) = status_of_symbol c
status_of_field field = None

-- the current status that a character stands for, one of ? * / - F G +
abbrev pub current_of_symbol : ℕ → Option Current
current_of_symbol c =
    if nat_eq c 63 then Some Copying
    else if nat_eq c 42 then Some Trimming
    else if nat_eq c 47 then Some Scraping
    else if nat_eq c 45 then Some Retrying
    else if nat_eq c 70 then Some Filling
    else if nat_eq c 71 then Some Generating
    else if nat_eq c 43 then Some Done
    else None

-- the current status that a field spells, one of ? * / - F G +
abbrev pub current_of_field : List ℕ → Option Current
current_of_field (c ∷ []) = current_of_symbol c
current_of_field field = None

-- a decimal digit begins the field
abbrev pub begins_with_digit : List ℕ → Bool
begins_with_digit [] = false
begins_with_digit (c ∷ cs) = nat_le 48 c && nat_le c 57

-- a number, if there is one and it is above 0
abbrev pub above_zero : Option ℕ → Option ℕ
above_zero None = None
above_zero (Some n) = if nat_eq n 0 then None else Some n

-- the pass by the fields after the current status: a number above 0 if the first of them begins with a digit, else 1
abbrev pub pass_of : List (List ℕ) → Option ℕ
pass_of [] = Some 1
pass_of (f ∷ fs) = if begins_with_digit f then above_zero (numeral f) else Some 1

-- the state with this position, current status and pass, if there are all three
abbrev pub state_by : Option ℕ → Option Current → Option ℕ → Option MapState
state_by (Some pos) (Some current) (Some pass) = Some (record { pos = pos; current = current; pass = pass })
state_by pos current pass = None

-- what a status line spells: position, current status and pass; later fields are passed over
abbrev pub state_of : List (List ℕ) → Option MapState
state_of (p ∷ c ∷ rest) = state_by (numeral p) (current_of_field c) (pass_of rest)
state_of fields = None

-- the block with this position, size and status, if there are all three
abbrev pub block_by : Option ℕ → Option ℕ → Option Status → Option Block
block_by (Some pos) (Some size) (Some status) = Some (record { pos = pos; size = size; status = status })
block_by pos size status = None

-- what a block line spells: position, size and status; later fields are passed over
abbrev pub block_of : List (List ℕ) → Option Block
block_of (p ∷ n ∷ s ∷ rest) = block_by (numeral p) (numeral n) (status_of_field s)
block_of fields = None
