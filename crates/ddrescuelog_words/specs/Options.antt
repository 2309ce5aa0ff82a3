-- The options of `ddrescuelog`, one a row, and what they ask for. A later option is a row more.
use Rattle.std.specs.Prelude.{ℕ, ◌+◌, ◌^◌, Bool, true, false, nat_le, List, [], ◌∷◌, Option, Some, None, Result, option_map, option_and_then, codes, if◌then◌else◌}
use Rattle.block_list.specs.Types.{types_of}
use Rattle.option_words.specs.declared.row.Takes.{Takes}
use Rattle.option_words.specs.declared.row.Takes.TheVariants.{Never, Always, Optional}
use Rattle.option_words.specs.declared.reading.Item.{Item}
use Rattle.option_words.specs.Values.{Meaning, OptionRow, domain_letter, flag, is_name, letter_in, meanings_of, quiet_letter, sector_letter, size_by, valued}
use Rattle.option_words.specs.Values.{options_in as options_by}
use Rattle.map_algebra.specs.declared.combine.Op.TheVariants.{And, Or, Xor}
use Rattle.map_algebra.specs.Change.{change_of, inverting}
use Rattle.ddrescuelog_words.specs.declared.mode.LogMode.{LogMode}
use Rattle.ddrescuelog_words.specs.declared.mode.LogMode.TheVariants.{Change, Combine, Complete, ListBlocks, Test, Compare, Summarize}
use Rattle.ddrescuelog_words.specs.declared.options.LogOptions.{LogOptions}
use Rattle.ddrescuelog_words.specs.Modes.{one_type, two_types, with_map}

-- ---- the rows

-- what is done, if a value says it; of several the last is kept, and that there is one is checked after all values
abbrev pub as_mode : LogOptions → Option LogMode → Option LogOptions
as_mode o m = option_map (λ mode. record o { mode = Some mode }) m

-- an option that says what is done, by its value
abbrev pub mode : (letter : ℕ) → List ℕ → Takes → (Option (List ℕ) → Option LogMode) → OptionRow LogOptions
mode letter name takes read =
    record { letter = Some letter; name = name; takes = takes; sets = λ block o value. as_mode o (read value) }

-- the letter of `-s`, which is read by itself, and checked again after all others if a map is to be made
abbrev pub size_letter : ℕ
size_letter = letter_in (codes "s")

-- the letters of the options that say what is done, one of which must be given
abbrev pub mode_letters : List ℕ
mode_letters = codes "acCdDlnpPtxyz"

-- the options, each with what it sets by the size of a block and the text of its value
abbrev pub option_rows : List (OptionRow LogOptions)
option_rows =
    mode (letter_in (codes "a")) (codes "change-types") Always
    (λ value. option_map Change (option_and_then change_of value))
    ∷ valued sector_letter (codes "block-size") (λ block o value. Some o)
    ∷ mode (letter_in (codes "c")) (codes "create-mapfile") Optional two_types
    ∷ mode (letter_in (codes "C")) (codes "complete-mapfile") Optional (λ value. option_map Complete (one_type value))
    ∷ mode (letter_in (codes "d")) (codes "delete-if-done") Never (λ value. Some (Test true))
    ∷ mode (letter_in (codes "D")) (codes "done-status") Never (λ value. Some (Test false))
    ∷ flag (letter_in (codes "f")) (codes "force") (λ o. record o { forced = true })
    ∷ valued (letter_in (codes "i")) (codes "input-position")
    (λ block o value. option_map (λ n. record o { input_position = n })
    (size_by block value))
    ∷ mode (letter_in (codes "l")) (codes "list-blocks") Always
    (λ value. option_map ListBlocks (option_and_then types_of value))
    ∷ flag (letter_in (codes "L")) (codes "loose-domain") (λ o. record o { loose = true })
    ∷ valued domain_letter (codes "domain-mapfile") (λ block o value. if is_name value then Some o else None)
    ∷ mode (letter_in (codes "n")) (codes "invert-mapfile") Never (λ value. Some (Change inverting))
    ∷ valued (letter_in (codes "o")) (codes "output-position")
    (λ block o value. option_map (λ n. record o { output_position = Some n })
    (size_by block value))
    ∷ mode (letter_in (codes "p")) (codes "compare-mapfile") Always (with_map (Compare false))
    ∷ mode (letter_in (codes "P")) (codes "compare-as-domain") Always (with_map (Compare true))
    ∷ flag quiet_letter (codes "quiet") (λ o. record o { quiet = true })
    ∷ valued size_letter (codes "size") (λ block o value. option_map (λ n. record o { size = Some n })
    (size_by block value))
    ∷ mode (letter_in (codes "t")) (codes "show-status") Never (λ value. Some Summarize)
    ∷ flag (letter_in (codes "v")) (codes "verbose") (λ o. o)
    ∷ mode (letter_in (codes "x")) (codes "xor-mapfile") Always (with_map (Combine Xor))
    ∷ mode (letter_in (codes "y")) (codes "and-mapfile") Always (with_map (Combine And))
    ∷ mode (letter_in (codes "z")) (codes "or-mapfile") Always (with_map (Combine Or))
    ∷ []

-- each option's letter, its long name, and whether it takes a value
abbrev pub option_meanings : List Meaning
option_meanings = meanings_of option_rows

-- what is asked for if no option but that of the block is given
abbrev pub no_options : (block : ℕ) → LogOptions
no_options block = record {
  block = block;
  input_position = 0;
  output_position = None;
  size = None;
  mode = None;
  loose = false;
  forced = false;
  quiet = false;
}

-- what all options ask for, or the word of the first bad value
abbrev pub options_in : List (List ℕ) → List Item → Result LogOptions ℕ
options_in words items = options_by option_rows sector_letter no_options words items

-- the end that a size gives is 2^63 or more
abbrev pub ends_beyond : LogOptions → (size : Option ℕ) → Bool
ends_beyond o None = false
ends_beyond o (Some n) = nat_le (2 ^ 63) (o.input_position + n)
