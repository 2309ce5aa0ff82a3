-- The options of `ddrescueverify`, one a row, and what they ask for. A later option is a row more.
use Rattle.std.specs.Prelude.{ℕ, true, false, List, [], ◌∷◌, Some, None, Result, option_map, codes}
use Rattle.option_words.specs.declared.reading.Item.{Item}
use Rattle.option_words.specs.Values.{Meaning, OptionRow, flag, letter_in, meanings_of, quiet_letter, sector_letter, size_by, valued}
use Rattle.option_words.specs.Values.{options_in as options_by}
use Rattle.ddrescueverify_words.specs.declared.options.VerifyOptions.{VerifyOptions}

-- the options, each with what it sets by the size of a sector and the text of its value
abbrev pub option_rows : List (OptionRow VerifyOptions)
option_rows =
    valued sector_letter (codes "sector-size") (λ sector o value. Some o)
    ∷ valued (letter_in (codes "i")) (codes "input-position")
    (λ sector o value. option_map (λ n. record o { input_position = n })
    (size_by sector value))
    ∷ valued (letter_in (codes "o")) (codes "output-position")
    (λ sector o value. option_map (λ n. record o { output_position = Some n })
    (size_by sector value))
    ∷ flag quiet_letter (codes "quiet") (λ o. record o { quiet = true })
    ∷ valued (letter_in (codes "s")) (codes "size")
    (λ sector o value. option_map (λ n. record o { size = Some n }) (size_by sector value))
    ∷ []

-- each option's letter, its long name, and whether it takes a value
abbrev pub option_meanings : List Meaning
option_meanings = meanings_of option_rows

-- what is asked for if no option but the sector's is given
abbrev pub no_options : (sector : ℕ) → VerifyOptions
no_options sector = record {
  sector = sector;
  input_position = 0;
  output_position = None;
  size = None;
  quiet = false;
}

-- what all options ask for, or the word of the first bad value
abbrev pub options_in : List (List ℕ) → List Item → Result VerifyOptions ℕ
options_in words items = options_by option_rows sector_letter no_options words items
