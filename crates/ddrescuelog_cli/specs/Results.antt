-- What is printed of maps, and what a map that is created has.
use Rattle.std.specs.Prelude.{◌≡◌, ℕ, ◌+◌, List, [], ◌∷◌, ◌++◌, slice_index_or, Option, Some, None, codes}
use Rattle.std.specs.Fmt.{decimal}
use Rattle.block_list.specs.declared.status.Status.{Status}
use Rattle.block_list.specs.declared.status.Status.TheVariants.{NonTried, NonTrimmed, NonScraped, BadSector, Finished}
use Rattle.block_list.specs.declared.types.TypeSet.{TypeSet}
use Rattle.mapfile_text.specs.declared.heading.Program.TheVariants.{Ddrescuelog}
use Rattle.mapfile_text.specs.declared.state.MapState.{MapState}
use Rattle.mapfile_text.specs.declared.state.Current.TheVariants.{Copying}
use Rattle.mapfile_text.specs.Printed.{with_newline, printed, current_symbol}
use Rattle.block_list.specs.declared.areas.Count.{Count}
use Rattle.map_counts.specs.declared.summary.Summary.{Summary}
use Rattle.map_algebra.specs.Listing.{Wanted}
use Rattle.map_algebra.specs.Blocks.{IsEndOfBlocks}
use Rattle.map_algebra.specs.Create.{created_map}
use Rattle.ddrescuelog_words.specs.declared.options.LogOptions.{LogOptions}
use Rattle.ddrescuelog_words.specs.Command.{Command}
use Rattle.ddrescuelog_cli.specs.Maps.{Maps, shape_of, domain_below, domain_of}

-- ---- what is printed

-- the text of a map, under a heading with the command line
abbrev pub map_text : (line : List ℕ) → MapState → List Status → List ℕ
map_text line shown statuses =
    printed (record { program = Ddrescuelog; line = line; start_s = 0; now_s = 0 }) shown statuses

-- a number on a line of its own
abbrev pub number_line : ℕ → List ℕ
number_line k = with_newline (decimal k)

-- how a status is called
abbrev pub status_name : Status → List ℕ
status_name NonTried = codes "non-tried"
status_name NonTrimmed = codes "non-trimmed"
status_name NonScraped = codes "non-scraped"
status_name BadSector = codes "bad-sector"
status_name Finished = codes "finished"

-- `position 0, status ?, pass 1`: what the mapfile shows
abbrev pub shown_line : MapState → List ℕ
shown_line shown =
    with_newline (codes "position " ++ decimal shown.pos ++ codes ", status " ++ current_symbol shown.current ∷ []
    ++ codes ", pass " ++ decimal shown.pass)

-- `domain 0 B`: how many positions are examined
abbrev pub domain_line : ℕ → List ℕ
domain_line n = with_newline (codes "domain " ++ decimal n ++ codes " B")

-- `non-tried 0 B in 0 areas`: how much of what is examined has a status
abbrev pub count_line : Status → Count → List ℕ
count_line status k =
    with_newline
    (status_name status ++ codes " " ++ decimal k.bytes ++ codes " B in " ++ decimal k.areas ++ codes " areas")

-- the line of a status, whose count is the k-th of a summary
abbrev pub counted_line : Status → Summary → (k : ℕ) → List ℕ
counted_line status s k = count_line status (slice_index_or s.lines k (record { bytes = 0; areas = 0 }))

-- what the mapfile shows, the size of the domain, and a line for each status
abbrev pub summary_text : MapState → Summary → List ℕ
summary_text shown s =
    shown_line shown ++ domain_line s.domain ++ counted_line NonTried s 0 ++ counted_line NonTrimmed s 1
    ++ counted_line NonScraped s 2 ++ counted_line BadSector s 3 ++ counted_line Finished s 4

-- what -l lists
abbrev pub wanted_by : Command → TypeSet → Maps → Wanted
wanted_by c types m = record {
  domain = domain_of c m;
  types = types;
  shape = shape_of c.options;
  statuses = m.statuses;
}

-- ---- what is saved

-- where a map of listed blocks ends: the size past the input position, if that is given, else past the last listed one
abbrev pub ListEndsAt : (size : Option ℕ) → LogOptions → (numbers : List ℕ) → (end : ℕ) → Type 0
ListEndsAt (Some n) o numbers end = end ≡ o.input_position + n
ListEndsAt None o numbers end = IsEndOfBlocks (shape_of o) numbers end

-- a text is that of the map of listed blocks, at position 0 in the first pass of copying
pub record IsCreated (c : Command) (listed rest : Status) (line : List ℕ) (m : Maps) (numbers text : List ℕ)
    : Type 0 where
  pub end : ℕ
  pub ends : ListEndsAt c.options.size c.options numbers end
  pub is : text ≡ map_text line (record { pos = 0; current = Copying; pass = 1 })
      (created_map (shape_of c.options) numbers (domain_below c.options m end) listed rest end)
