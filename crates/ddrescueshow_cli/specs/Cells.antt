-- The cells of a picture: into which ranges of positions it divides what it shows, and what each cell shows of its
-- range.
use Rattle.std.specs.Prelude.{ℕ, ◌+◌, ◌-◌, ◌*◌, ◌^◌, ◌<◌, ◌≤◌, min, max, Bool, List, Option, Some, None, if◌then◌else◌}
use Rattle.std.specs.Int.{div_ceil}
use Rattle.std.specs.List.{list_any, range_with_len}
use Rattle.block_list.specs.declared.status.Status.{Status}
use Rattle.block_list.specs.declared.status.Status.TheVariants.{NonTried, NonTrimmed, NonScraped, BadSector, Finished}
use Rattle.map_counts.specs.Summary.{has_status}
use Rattle.ddrescueshow_words.specs.declared.options.ShowOptions.{ShowOptions}
use Rattle.ddrescueshow_cli.specs.declared.cells.Seen.{Seen}
use Rattle.ddrescueshow_cli.specs.declared.frame.Frame.{Frame}

-- the end of what is shown of a map that ends there
abbrev pub end_shown : (from : ℕ) → (size : Option ℕ) → (end : ℕ) → ℕ
end_shown from None end = end
end_shown from (Some n) end = min end (from + n)

-- how many sectors a cell has: the least whole number, at least one, with which `span` positions fit into `cells` cells
abbrev pub sectors_of : (span sector cells : ℕ) → ℕ
sectors_of span sector cells = max 1 (div_ceil span (sector * cells))

-- the picture of a map that ends there: from where to where it goes, the size of a cell, and the cells of a row
abbrev pub frame_of : ShowOptions → (end : ℕ) → Frame
frame_of o end = record {
  from = o.input_position;
  to = end_shown o.input_position o.size end;
  cell = o.sector * sectors_of (end_shown o.input_position o.size end - o.input_position) o.sector (o.width * o.rows);
  width = o.width;
}

-- how many cells a picture has
abbrev pub cells_in : Frame → ℕ
cells_in f = div_ceil (f.to - f.from) f.cell

-- how many rows of cells a picture has
abbrev pub rows_in : Frame → ℕ
rows_in f = div_ceil (cells_in f) f.width

-- where a cell begins; cells are counted from 0
abbrev pub begin_of : Frame → (k : ℕ) → ℕ
begin_of f k = f.from + k * f.cell

-- where a cell ends; cells are counted from 0, and the last one may be shorter
abbrev pub end_of : Frame → (k : ℕ) → ℕ
end_of f k = min f.to (begin_of f k + f.cell)

-- how many cells the row with a number has, counted from 0: the last one may have fewer than the others
abbrev pub cells_of_row : Frame → (row : ℕ) → ℕ
cells_of_row f row = min f.width (cells_in f - row * f.width)

-- a picture's cells and rows aren't empty, it has at most 1,000 rows of at most 1,000 cells, and its positions are
-- below 2^63
pub record IsFrame (f : Frame) : Type 0 where
  pub cell : 0 < f.cell
  pub width : 0 < f.width
  pub wide : f.width ≤ 1000
  pub high : rows_in f ≤ 1000
  pub short : f.to < 2 ^ 63

-- some position of the domain, from one position up to another, has a status
abbrev pub has_some : (domain : ℕ → Bool) → List Status → (from to : ℕ) → Status → Bool
has_some domain statuses from to s = list_any (has_status domain statuses s) (range_with_len from (to - from))

-- The first of the statuses that are there, the worst first: bad before non-scraped before non-trimmed before non-tried
-- before finished. None if none is.
abbrev pub worst_by : (is_there : Status → Bool) → Option Status
worst_by is_there =
    if is_there BadSector then Some BadSector
    else if is_there NonScraped then Some NonScraped
    else if is_there NonTrimmed then Some NonTrimmed
    else if is_there NonTried then Some NonTried
    else if is_there Finished then Some Finished
    else None

-- the worst status of these positions; none if no position is in the domain
abbrev pub worst : (domain : ℕ → Bool) → List Status → (from to : ℕ) → Option Status
worst domain statuses from to = worst_by (has_some domain statuses from to)

-- what a cell shows
abbrev pub mark : Frame → (domain : ℕ → Bool) → List Status → (k : ℕ) → Option Status
mark f domain statuses k = worst domain statuses (begin_of f k) (end_of f k)

-- ---- a walk along positions

-- whether a status was seen
abbrev pub is_seen : Seen → Status → Bool
is_seen seen BadSector = seen.bad_sector
is_seen seen NonScraped = seen.non_scraped
is_seen seen NonTrimmed = seen.non_trimmed
is_seen seen NonTried = seen.non_tried
is_seen seen Finished = seen.finished
