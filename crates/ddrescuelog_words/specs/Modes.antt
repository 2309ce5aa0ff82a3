-- What is done with a map, and which values say it.
use Rattle.std.specs.Prelude.{ℕ, Bool, true, false, List, [], ◌∷◌, Option, Some, None, is_some, option_map, option_and_then, if◌then◌else◌}
use Rattle.block_list.specs.declared.status.Status.{Status}
use Rattle.block_list.specs.declared.status.Status.TheVariants.{NonTried, BadSector, Finished}
use Rattle.block_list.specs.Status.{status_of_symbol}
use Rattle.option_words.specs.Values.{is_name}
use Rattle.map_algebra.specs.declared.combine.Op.{Op}
use Rattle.map_algebra.specs.declared.combine.Op.TheVariants.{And, Or, Xor}
use Rattle.mapfile_text.specs.declared.read.Mode.{Mode}
use Rattle.mapfile_text.specs.declared.read.Mode.TheVariants.{Tight, Loose}
use Rattle.ddrescuelog_words.specs.declared.mode.LogMode.{LogMode}
use Rattle.ddrescuelog_words.specs.declared.mode.ModeRow.{ModeRow}
use Rattle.ddrescuelog_words.specs.declared.mode.LogMode.TheVariants.{Change, Combine, Complete, ListBlocks, Create, Test, Compare, Summarize}

-- ---- modes

-- the letter of the option that names another map: that of and, or, xor
abbrev pub combining_letter : Op → ℕ
combining_letter And = 121
combining_letter Or = 122
combining_letter Xor = 120

-- the letter of the option of a comparison, of what is finished alone or of all
abbrev pub comparing_letter : (finished : Bool) → ℕ
comparing_letter true = 80
comparing_letter false = 112

-- a mode that reads one map, a tight one
abbrev pub plain_row : ModeRow
plain_row = record { other_letter = None; mapfile = Tight; creates = false; removes_map = false }

-- Each mode's row: the letter of the option by which it names another map, if it works on one, how its mapfile is read,
-- and whether it makes a mapfile, or removes one that is done. The gaps of a mapfile that -C reads get its type.
abbrev pub mode_row : LogMode → ModeRow
mode_row (Change change) = plain_row
mode_row (Combine op) = record plain_row { other_letter = Some (combining_letter op) }
mode_row (Complete status) = record plain_row { mapfile = Loose status }
mode_row (ListBlocks types) = plain_row
mode_row (Create listed rest) = record plain_row { creates = true }
mode_row (Test removes) = record plain_row { removes_map = removes }
mode_row (Compare finished) = record plain_row { other_letter = Some (comparing_letter finished) }
mode_row Summarize = plain_row

-- what the rows say
abbrev pub other_letter : LogMode → Option ℕ
other_letter mode = (mode_row mode).other_letter

abbrev pub mapfile_mode : LogMode → Mode
mapfile_mode mode = (mode_row mode).mapfile

abbrev pub creates : LogMode → Bool
creates mode = (mode_row mode).creates

abbrev pub removes_map : LogMode → Bool
removes_map mode = (mode_row mode).removes_map

-- a mode works on another map too
abbrev pub has_other : LogMode → Bool
has_other mode = is_some (other_letter mode)

-- ---- the values that say them

-- one type; non-tried if no value is given
abbrev pub one_type : Option (List ℕ) → Option Status
one_type None = Some NonTried
one_type (Some []) = None
one_type (Some (c ∷ [])) = status_of_symbol c
one_type (Some (c ∷ d ∷ more)) = None

-- a map to be created, by the type of the listed blocks and that of the rest
abbrev pub created_by : Option Status → Option Status → Option LogMode
created_by listed rest = option_and_then (λ l. option_map (λ r. Create l r) rest) listed

-- a map to be created, by two types; finished and bad-sector if no value is given
abbrev pub two_types : Option (List ℕ) → Option LogMode
two_types None = Some (Create Finished BadSector)
two_types (Some []) = None
two_types (Some (c ∷ [])) = None
two_types (Some (c ∷ d ∷ [])) = created_by (status_of_symbol c) (status_of_symbol d)
two_types (Some (c ∷ d ∷ e ∷ more)) = None

-- a mode that works on another map, by the name of that map
abbrev pub with_map : LogMode → Option (List ℕ) → Option LogMode
with_map m value = if is_name value then Some m else None
