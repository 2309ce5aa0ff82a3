-- The options of `ddrescueplan`, one a letter. Each is the rescue's with this letter, and asks for the same.
use Rattle.std.specs.Prelude.{ℕ, List, [], ◌∷◌, map, Option, Some, None, Result, option_map, codes}
use Rattle.option_words.specs.declared.row.Takes.{Takes}
use Rattle.option_words.specs.declared.row.Takes.TheVariants.{Never}
use Rattle.option_words.specs.declared.reading.Item.{Item}
use Rattle.option_words.specs.Values.{Meaning, OptionRow, meanings_of, row_of, sector_letter, set_by}
use Rattle.option_words.specs.Values.{options_in as options_by}
use Rattle.ddrescue_words.specs.declared.options.Options.{Options}
use Rattle.ddrescue_words.specs.Options.{option_rows as rescue_rows, no_options as no_rescue_options}
use Rattle.ddrescueplan_words.specs.declared.options.PlanOptions.{PlanOptions}

-- what the option of a row is named
abbrev pub name_in : Option (OptionRow Options) → List ℕ
name_in None = codes ""
name_in (Some r) = r.name

-- whether the option of a row takes a value
abbrev pub takes_in : Option (OptionRow Options) → Takes
takes_in None = Never
takes_in (Some r) = r.takes

-- what is asked of a rescue, as options of a plan
abbrev pub of_rescue : Options → PlanOptions
of_rescue o = record { rescue = o }

-- the option of a letter
abbrev pub option_row : (letter : ℕ) → OptionRow PlanOptions
option_row letter = record {
  letter = Some letter;
  name = name_in (row_of letter rescue_rows);
  takes = takes_in (row_of letter rescue_rows);
  sets = λ sector o value. option_map of_rescue (set_by (row_of letter rescue_rows) sector o.rescue value);
}

-- the letters of the options
abbrev pub option_letters : List ℕ
option_letters = codes "bciKnNqrRsu"

-- the options, one a row
abbrev pub option_rows : List (OptionRow PlanOptions)
option_rows = map option_row option_letters

-- each option's letter, its long name, and whether it takes a value
abbrev pub option_meanings : List Meaning
option_meanings = meanings_of option_rows

-- what is asked for if no option but the sector's is given
abbrev pub no_options : (sector : ℕ) → PlanOptions
no_options sector = of_rescue (no_rescue_options sector)

-- what all options ask for, or the word of the first bad value
abbrev pub options_in : List (List ℕ) → List Item → Result PlanOptions ℕ
options_in words items = options_by option_rows sector_letter no_options words items
