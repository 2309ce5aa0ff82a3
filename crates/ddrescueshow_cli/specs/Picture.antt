-- The text of a picture, in each of its forms.
use Rattle.std.specs.Prelude.{ℕ, ◌-◌, ◌*◌, ◌/◌, ◌%◌, Bool, true, false, List, ◌∷◌, ◌++◌, length, replicate, slice_index_or, nat_eq, Option, Some, None, codes, if◌then◌else◌}
use Rattle.std.specs.Fmt.{decimal}
use Rattle.std.specs.List.{flat_map, range_with_len}
use Rattle.block_list.specs.declared.areas.Count.{Count}
use Rattle.block_list.specs.declared.status.Status.{Status}
use Rattle.block_list.specs.declared.status.Status.TheVariants.{NonTried, NonTrimmed, NonScraped, BadSector, Finished}
use Rattle.map_counts.specs.declared.summary.Summary.{Summary}
use Rattle.map_counts.specs.Summary.{summary_of}
use Rattle.ddrescueshow_words.specs.declared.options.Coloring.{Coloring}
use Rattle.ddrescueshow_words.specs.declared.options.Coloring.TheVariants.{Auto, Always, Never}
use Rattle.ddrescueshow_words.specs.declared.options.ShowOptions.{ShowOptions}
use Rattle.ddrescueshow_cli.specs.declared.form.Form.{Form}
use Rattle.ddrescueshow_cli.specs.declared.form.Form.TheVariants.{Plain, Colored, Svg}
use Rattle.ddrescueshow_cli.specs.declared.frame.Frame.{Frame}
use Rattle.ddrescueshow_cli.specs.declared.runs.Run.{Run}
use Rattle.ddrescueshow_cli.specs.Cells.{begin_of, rows_in}
use Rattle.ddrescueshow_cli.specs.Runs.{cell_symbol, marks_of, runs_of}
use Rattle.ddrescueshow_cli.specs.Svg.{rect_text, svg_foot, svg_front, svg_head}

-- ---- which form it has

-- text is in color always, never, or if standard output is a terminal
abbrev pub is_colored : Coloring → (terminal : Bool) → Bool
is_colored Auto terminal = terminal
is_colored Always terminal = true
is_colored Never terminal = false

-- the form of a picture: SVG if that is asked for, and else text, in color or plain
abbrev pub form_of : ShowOptions → (terminal : Bool) → Form
form_of o terminal = if o.svg then Svg else if is_colored o.coloring terminal then Colored else Plain

-- ---- how much there is

-- the count of a status in a summary, by its line
abbrev pub line_of : Summary → (k : ℕ) → Count
line_of s k = slice_index_or s.lines k (record { bytes = 0; areas = 0 })

-- what of a size is rescued, in hundredths of a percent, rounded down; all of nothing is rescued
abbrev pub share : (rescued size : ℕ) → ℕ
share rescued size = if nat_eq size 0 then 10000 else rescued * 10000 / size

-- a share with two digits after the point: `99.07`
abbrev pub share_text : ℕ → List ℕ
share_text n = decimal (n / 100) ++ codes "." ++ decimal (n / 10 % 10) ++ decimal (n % 10)

-- `99.07 % of 67108864 B rescued, `
abbrev pub rescued_text : (rescued size : ℕ) → List ℕ
rescued_text rescued size =
    share_text (share rescued size) ++ codes " % of " ++ decimal size ++ codes " B rescued, "

-- `20480 B bad in 5 areas`
abbrev pub bad_text : Count → List ℕ
bad_text bad = decimal bad.bytes ++ codes " B bad in " ++ decimal bad.areas ++ codes " areas"

-- `99.07 % of 67108864 B rescued, 20480 B bad in 5 areas`
abbrev pub figures_text : Summary → List ℕ
figures_text s = rescued_text (line_of s 4).bytes s.domain ++ bad_text (line_of s 3)

-- `a cell is 65536 B`
abbrev pub cell_text : Frame → List ℕ
cell_text f = codes "a cell is " ++ decimal f.cell ++ codes " B"

-- ---- a terminal's colors

-- a terminal's sequence of this number
abbrev pub sequence : List ℕ → List ℕ
sequence number = 27 ∷ codes "[" ++ number ++ codes "m"

-- the background of a cell, in the colors of ddrescueview: finished is green, non-tried gray, non-trimmed yellow,
-- non-scraped blue and bad red
abbrev pub color_of : Option Status → List ℕ
color_of None = sequence (codes "49")
color_of (Some Finished) = sequence (codes "42")
color_of (Some NonTried) = sequence (codes "100")
color_of (Some NonTrimmed) = sequence (codes "43")
color_of (Some NonScraped) = sequence (codes "44")
color_of (Some BadSector) = sequence (codes "41")

-- the sequence that ends a color
abbrev pub uncolored : List ℕ
uncolored = sequence (codes "0")

-- `count` cells in a color
abbrev pub block : Option Status → (count : ℕ) → List ℕ
block shown count = color_of shown ++ replicate count 32 ++ uncolored

-- a cell in the color of a status, and what it means
abbrev pub color_text : Status → (name : List ℕ) → List ℕ
color_text status name = block (Some status) 1 ++ name

-- what the colors of finished and non-tried cells mean
abbrev pub tried_colors : List ℕ
tried_colors = color_text Finished (codes " finished, ") ++ color_text NonTried (codes " non-tried, ")

-- what the colors of failed cells mean, and what a blank one does
abbrev pub failed_colors : List ℕ
failed_colors =
    color_text NonTrimmed (codes " non-trimmed, ") ++ color_text NonScraped (codes " non-scraped, ")
    ++ color_text BadSector (codes " bad-sector, blank: not in the domain\n")

-- ---- the parts of a picture, by its form

-- a number after as many blanks as make it so long, and a blank
abbrev pub padded : (len : ℕ) → ℕ → List ℕ
padded len n = replicate (len - length (decimal n)) 32 ++ decimal n ++ codes " "

-- how a picture begins: the figures, and the size of a cell
abbrev pub head_text : Form → Frame → Summary → List ℕ
head_text Svg f s = svg_head f (figures_text s) (cell_text f)
head_text Plain f s = (figures_text s ++ codes "\n") ++ cell_text f ++ codes "\n"
head_text Colored f s = (figures_text s ++ codes "\n") ++ cell_text f ++ codes "\n"

-- how a row begins: the position of its first cell, which in text is as long as the last position
abbrev pub front_text : Form → Frame → (row : ℕ) → List ℕ
front_text Svg f row = svg_front row (begin_of f (row * f.width))
front_text Plain f row = padded (length (decimal f.to)) (begin_of f (row * f.width))
front_text Colored f row = padded (length (decimal f.to)) (begin_of f (row * f.width))

-- a run of cells: the character of each, blanks in its color, or a rectangle
abbrev pub run_text : Form → Run → List ℕ
run_text Plain r = replicate r.count (cell_symbol r.shown)
run_text Colored r = block r.shown r.count
run_text Svg r = rect_text r

-- how a row ends
abbrev pub end_text : Form → List ℕ
end_text Svg = codes "</g>\n"
end_text Plain = codes "\n"
end_text Colored = codes "\n"

-- a row of a picture: the position of its first cell, its runs of cells, and its end
abbrev pub row_text : Form → Frame → (domain : ℕ → Bool) → List Status → (row : ℕ) → List ℕ
row_text form f domain statuses row =
    front_text form f row ++ flat_map (run_text form) (runs_of (marks_of f domain statuses row)) ++ end_text form

-- how a picture ends: what the cells mean
abbrev pub foot_text : Form → Frame → List ℕ
foot_text Svg f = svg_foot f
foot_text Plain f =
    codes "+ finished, ? non-tried, * non-trimmed, / non-scraped, - bad-sector, blank: not in the domain\n"
foot_text Colored f = tried_colors ++ failed_colors

-- ---- all of it

-- a whole picture: the figures, its rows, and what the cells mean
abbrev pub picture_text : Form → Frame → (domain : ℕ → Bool) → List Status → List ℕ
picture_text form f domain statuses =
    head_text form f (summary_of domain statuses)
    ++ flat_map (row_text form f domain statuses) (range_with_len 0 (rows_in f)) ++ foot_text form f
