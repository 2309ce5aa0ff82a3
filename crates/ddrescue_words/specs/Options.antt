-- The options of a rescue, one a row, and what they ask for. A later option is a row more.
use Rattle.std.specs.Prelude.{ℕ, ◌+◌, ◌-◌, ◌*◌, ◌/◌, ◌^◌, min, max, true, false, nat_eq, nat_le, nat_lt, List, [], ◌∷◌, ◌++◌, length, Option, Some, None, Result, option_map, option_and_then, codes, if◌then◌else◌}
use Rattle.std.specs.Result.{result_ok}
use Rattle.size_suffixes.specs.Interval.{interval}
use Rattle.block_list.specs.Types.{types_of}
use Rattle.option_words.specs.declared.row.Takes.TheVariants.{Always}
use Rattle.option_words.specs.declared.reading.Item.{Item}
use Rattle.option_words.specs.Values.{Meaning, OptionRow, domain_letter, flag, is_empty_text, is_name, letter_in, meanings_of, number_by, quiet_letter, sector_letter, size_by, valued, within_range}
use Rattle.option_words.specs.Values.{options_in as options_by}
use Rattle.run_options.specs.declared.limits.AreaLimit.{AreaLimit}
use Rattle.run_options.specs.declared.limits.AreaLimit.TheVariants.{New, Total}
use Rattle.run_options.specs.Limits.{no_limits}
use Rattle.run_options.specs.Passes.{all_phases_once}
use Rattle.ddrescue_words.specs.declared.options.Options.{Options}

-- ---- sizes in sectors

-- the size of a cluster in bytes, if no option gives it and no sector is larger
abbrev pub default_cluster : ℕ
default_cluster = 65536

-- no cluster has more sectors than this
abbrev pub most_cluster_sectors : ℕ
most_cluster_sectors = 65536

-- a cluster in sectors: that of the option, or as many as the default has, but one at least
abbrev pub sectors_of : Options → Option ℕ → ℕ
sectors_of o (Some n) = n
sectors_of o None = max 1 (default_cluster / o.sector)

-- a cluster in bytes
abbrev pub cluster_of : Options → ℕ
cluster_of o = sectors_of o o.cluster_sectors * o.sector

-- a size rounded up to whole sectors
abbrev pub whole_sectors : (sector : ℕ) → ℕ → ℕ
whole_sectors sector n = (n + (sector - 1)) / sector * sector

-- a size rounded up to whole sectors, by options
abbrev pub in_sectors : Options → ℕ → ℕ
in_sectors o n = whole_sectors o.sector n

-- ---- how far copying skips

-- how far copying skips at first after a failed read, in bytes, if no option says it
abbrev pub default_skip : ℕ
default_skip = 65536

-- how far copying skips at most, in bytes, if no option says it
abbrev pub default_skip_max : ℕ
default_skip_max = 2 ^ 30

-- parts of a text, the first of which begins with one character more
abbrev pub with_first : ℕ → List (List ℕ) → List (List ℕ)
with_first c [] = (c ∷ []) ∷ []
with_first c (part ∷ parts) = (c ∷ part) ∷ parts

-- the parts of a text between its commas
abbrev pub comma_parts : List ℕ → List (List ℕ)
comma_parts [] = [] ∷ []
comma_parts (c ∷ text) = if nat_eq c 44 then [] ∷ comma_parts text else with_first c (comma_parts text)

-- a size that may be left out
abbrev pub size_if_given : (sector : ℕ) → List ℕ → Option (Option ℕ)
size_if_given sector text = if is_empty_text text then Some None else option_map Some (size_by sector (Some text))

-- Both skip sizes, before they are rounded to whole sectors. If the largest isn't given it is 1 GiB, or the first if
-- that is more; if the first isn't given it is 64 KiB, or the largest if that is less. The first may not be above the
-- largest.
abbrev pub skips_given : (first most : Option ℕ) → Option (ℕ × ℕ)
skips_given None None = Some (default_skip, default_skip_max)
skips_given (Some first) None = Some (first, max first default_skip_max)
skips_given None (Some most) = Some (min most default_skip, most)
skips_given (Some first) (Some most) = if nat_le first most then Some (first, most) else None

-- the skip sizes by the parts of a value: one of them or two
abbrev pub skips_in_parts : (sector : ℕ) → List (List ℕ) → Option (ℕ × ℕ)
skips_in_parts sector [] = None
skips_in_parts sector (first ∷ []) = option_and_then (λ f. skips_given f None) (size_if_given sector first)
skips_in_parts sector (first ∷ most ∷ []) =
    option_and_then (λ f. option_and_then (λ m. skips_given f m) (size_if_given sector most))
    (size_if_given sector first)
skips_in_parts sector (first ∷ most ∷ third ∷ more) = None

-- The skip sizes of `initial`, `initial,largest`, `,largest` or `initial,`; an empty value is bad, and so is a size
-- that is 2^63 or more in whole sectors.
abbrev pub skips_of : (sector : ℕ) → List ℕ → Option (ℕ × ℕ)
skips_of sector text =
    if is_empty_text text then None
    else option_and_then (λ (k : ℕ × ℕ). if nat_lt (whole_sectors sector k.1) (2 ^ 63) then Some k else None)
    (skips_in_parts sector (comma_parts text))

-- ---- limits

-- A limit of areas is a number or, if new areas alone count, a number after a `+`.
abbrev pub area_limit_of : List ℕ → Option AreaLimit
area_limit_of [] = None
area_limit_of (c ∷ text) =
    if nat_eq c 43 then option_map New (number_by (Some text)) else option_map Total (number_by (Some (c ∷ text)))

-- no more passes of retrying are asked for than this
abbrev pub most_retries : ℕ
most_retries = 65535

-- ---- the rows

-- Some options are read by themselves, too. The letter of the one that gives the size of a cluster (`-c`), which is
-- checked again after all others.
abbrev pub cluster_letter : ℕ
cluster_letter = letter_in (codes "c")

-- the letter of fill mode (`-F`)
abbrev pub fill_letter : ℕ
fill_letter = letter_in (codes "F")

-- the letter of generate mode (`-G`), which goes with no other mode
abbrev pub generate_letter : ℕ
generate_letter = letter_in (codes "G")

-- the letter of test mode (`-H`), which names a map
abbrev pub test_letter : ℕ
test_letter = letter_in (codes "H")

-- the options that have a letter, each with what it sets by the size of a sector and the text of its value
abbrev pub lettered_rows : List (OptionRow Options)
lettered_rows =
    valued (letter_in (codes "a")) (codes "min-read-rate")
    (λ sector o value. option_map (λ n. record o { min_rate = n })
    (option_and_then (within_range 1 (2 ^ 63)) (size_by sector value)))
    ∷ flag (letter_in (codes "A")) (codes "try-again") (λ o. record o { try_again = true })
    ∷ valued sector_letter (codes "sector-size") (λ sector o value. Some o)
    ∷ valued cluster_letter (codes "cluster-size")
    (λ sector o value. option_map (λ n. record o { cluster_sectors = Some n })
    (option_and_then (within_range 1 most_cluster_sectors) (size_by sector value)))
    ∷ flag (letter_in (codes "C")) (codes "complete-only") (λ o. record o { complete_only = true })
    ∷ valued (letter_in (codes "e")) (codes "max-bad-areas")
    (λ sector o value. option_map (λ a. record o { limits = record o.limits { areas = Some a } })
    (option_and_then area_limit_of value))
    ∷ flag (letter_in (codes "f")) (codes "force") (λ o. record o { forced = true })
    ∷ valued fill_letter (codes "fill-mode") (λ sector o value. option_map (λ t. record o { fill = Some t })
    (option_and_then types_of value))
    ∷ flag generate_letter (codes "generate-mode") (λ o. record o { generate = true })
    ∷ valued test_letter (codes "test-mode") (λ sector o value. if is_name value then Some o else None)
    ∷ valued (letter_in (codes "i")) (codes "input-position")
    (λ sector o value. option_map (λ n. record o { input_position = n })
    (size_by sector value))
    ∷ valued (letter_in (codes "K")) (codes "skip-size")
    (λ sector o value. option_map (λ (k : ℕ × ℕ). record o { skip = k.0; skip_max = k.1 })
    (option_and_then (skips_of sector) value))
    ∷ flag (letter_in (codes "L")) (codes "loose-domain") (λ o. record o { loose = true })
    ∷ valued domain_letter (codes "domain-mapfile") (λ sector o value. if is_name value then Some o else None)
    ∷ flag (letter_in (codes "M")) (codes "retrim") (λ o. record o { retrim = true })
    ∷ flag (letter_in (codes "n")) (codes "no-scrape") (λ o. record o { passes = record o.passes { scrapes = false } })
    ∷ flag (letter_in (codes "N")) (codes "no-trim") (λ o. record o { passes = record o.passes { trims = false } })
    ∷ valued (letter_in (codes "o")) (codes "output-position")
    (λ sector o value. option_map (λ n. record o { output_position = Some n })
    (size_by sector value))
    ∷ flag quiet_letter (codes "quiet") (λ o. record o { quiet = true })
    ∷ valued (letter_in (codes "r")) (codes "retry-passes")
    (λ sector o value. option_map (λ n. record o { passes = record o.passes { retries = n } })
    (option_and_then (within_range 0 most_retries) (number_by value)))
    ∷ flag (letter_in (codes "R")) (codes "reverse") (λ o. record o { passes = record o.passes { reverse = true } })
    ∷ valued (letter_in (codes "s")) (codes "size")
    (λ sector o value. option_map (λ n. record o { size = Some n }) (size_by sector value))
    ∷ valued (letter_in (codes "T")) (codes "timeout")
    (λ sector o value. option_map (λ n. record o { limits = record o.limits { timeout = Some n } })
    (option_and_then (λ text. result_ok (interval text)) value))
    ∷ flag (letter_in (codes "u")) (codes "unidirectional")
    (λ o. record o { passes = record o.passes { one_way = true } })
    ∷ flag (letter_in (codes "v")) (codes "verbose") (λ o. record o { verbose = true })
    ∷ valued (letter_in (codes "X")) (codes "max-read-errors")
    (λ sector o value. option_map (λ n. record o { limits = record o.limits { errors = Some n } }) (number_by value))
    ∷ []

-- no sample is larger than this, in KiB
abbrev pub largest_sample : ℕ
largest_sample = 65536

-- the size of a sample in KiB that a value gives, if it does
abbrev pub sample_of : Option (List ℕ) → Option ℕ
sample_of value = option_and_then (within_range 1 largest_sample) (number_by value)

-- the option that has no letter: the size of a sample
abbrev pub sample_row : OptionRow Options
sample_row = record {
  letter = None;
  name = codes "sample";
  takes = Always;
  sets = λ sector o value. option_map (λ n. record o { sample = Some n }) (sample_of value);
}

-- all options, that of a sample after the others
abbrev pub option_rows : List (OptionRow Options)
option_rows = lettered_rows ++ sample_row ∷ []

-- the row of the option of a sample, counted from 0
abbrev pub sample_place : ℕ
sample_place = length lettered_rows

-- each option's letter, its long name, and whether it takes a value
abbrev pub option_meanings : List Meaning
option_meanings = meanings_of option_rows

-- what is asked for if no option but the sector's is given
abbrev pub no_options : (sector : ℕ) → Options
no_options sector = record {
  sector = sector;
  cluster_sectors = None;
  skip = default_skip;
  skip_max = default_skip_max;
  min_rate = 0;
  input_position = 0;
  output_position = None;
  size = None;
  passes = all_phases_once;
  limits = no_limits;
  try_again = false;
  retrim = false;
  complete_only = false;
  fill = None;
  generate = false;
  loose = false;
  forced = false;
  quiet = false;
  verbose = false;
  sample = None;
}

-- what all options ask for, or the word of the first bad value
abbrev pub options_in : List (List ℕ) → List Item → Result Options ℕ
options_in words items = options_by option_rows sector_letter no_options words items
