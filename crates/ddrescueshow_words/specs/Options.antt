-- The options of `ddrescueshow`, one a row, and what they ask for. A later option is a row more.
use Rattle.std.specs.Prelude.{ℕ, true, false, List, [], ◌∷◌, ◌++◌, Option, Some, None, Result, option_map, option_and_then, codes, if◌then◌else◌}
use Rattle.std.specs.Str.{bytes_eq}
use Rattle.option_words.specs.declared.row.Takes.TheVariants.{Never, Always}
use Rattle.option_words.specs.declared.reading.Item.{Item}
use Rattle.option_words.specs.Values.{Meaning, OptionRow, domain_letter, flag, is_name, letter_in, meanings_of, number_by, quiet_letter, sector_letter, size_by, valued, within_range}
use Rattle.option_words.specs.Values.{options_in as options_by}
use Rattle.ddrescueshow_words.specs.declared.options.Coloring.{Coloring}
use Rattle.ddrescueshow_words.specs.declared.options.Coloring.TheVariants.{Auto, Always as InAnyCase, Never as InNoCase}
use Rattle.ddrescueshow_words.specs.declared.options.ShowOptions.{ShowOptions}

-- the number of cells in a row, or of rows, that a value gives
abbrev pub count_by : Option (List ℕ) → Option ℕ
count_by value = option_and_then (within_range 1 1000) (number_by value)

-- when a picture is in color, by a value
abbrev pub coloring_by : Option (List ℕ) → Option Coloring
coloring_by None = None
coloring_by (Some text) =
    if bytes_eq text (codes "auto") then Some Auto
    else if bytes_eq text (codes "always") then Some InAnyCase
    else if bytes_eq text (codes "never") then Some InNoCase
    else None

-- the options that have a letter, each with what it sets by the size of a sector and the text of its value
abbrev pub lettered_rows : List (OptionRow ShowOptions)
lettered_rows =
    valued sector_letter (codes "sector-size") (λ sector o value. Some o)
    ∷ valued (letter_in (codes "i")) (codes "input-position")
    (λ sector o value. option_map (λ n. record o { input_position = n })
    (size_by sector value))
    ∷ flag (letter_in (codes "L")) (codes "loose-domain") (λ o. record o { loose = true })
    ∷ valued domain_letter (codes "domain-mapfile") (λ sector o value. if is_name value then Some o else None)
    ∷ flag quiet_letter (codes "quiet") (λ o. record o { quiet = true })
    ∷ valued (letter_in (codes "s")) (codes "size")
    (λ sector o value. option_map (λ n. record o { size = Some n }) (size_by sector value))
    ∷ []

-- an option that has no letter and takes a value
abbrev pub unlettered : List ℕ → (ShowOptions → Option (List ℕ) → Option ShowOptions) → OptionRow ShowOptions
unlettered name sets = record { letter = None; name = name; takes = Always; sets = λ sector o value. sets o value }

-- when the picture is in color
abbrev pub color_row : OptionRow ShowOptions
color_row = unlettered (codes "color") (λ o value. option_map (λ c. record o { coloring = c }) (coloring_by value))

-- the picture is SVG
abbrev pub svg_row : OptionRow ShowOptions
svg_row = record {
  letter = None;
  name = codes "svg";
  takes = Never;
  sets = λ sector o value. Some (record o { svg = true });
}

-- how many rows of cells there are at most
abbrev pub rows_row : OptionRow ShowOptions
rows_row = unlettered (codes "rows") (λ o value. option_map (λ n. record o { rows = n }) (count_by value))

-- how many cells a row has
abbrev pub width_row : OptionRow ShowOptions
width_row = unlettered (codes "width") (λ o value. option_map (λ n. record o { width = n }) (count_by value))

-- all options, those without a letter last
abbrev pub option_rows : List (OptionRow ShowOptions)
option_rows = lettered_rows ++ color_row ∷ rows_row ∷ svg_row ∷ width_row ∷ []

-- each option's letter, its long name, and whether it takes a value
abbrev pub option_meanings : List Meaning
option_meanings = meanings_of option_rows

-- what is asked for if no option but the sector's is given
abbrev pub no_options : (sector : ℕ) → ShowOptions
no_options sector = record {
  sector = sector;
  input_position = 0;
  size = None;
  width = 64;
  rows = 16;
  coloring = Auto;
  svg = false;
  loose = false;
  quiet = false;
}

-- what all options ask for, or the word of the first bad value
abbrev pub options_in : List (List ℕ) → List Item → Result ShowOptions ℕ
options_in words items = options_by option_rows sector_letter no_options words items
