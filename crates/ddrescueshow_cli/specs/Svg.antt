-- The parts of a picture in SVG. A cell is 10 wide and 16 high; the first cell of the first row is at 0, 0.
use Rattle.std.specs.Prelude.{ℕ, ◌+◌, ◌*◌, max, List, ◌++◌, Option, Some, None, codes}
use Rattle.std.specs.Fmt.{decimal}
use Rattle.block_list.specs.declared.status.Status.{Status}
use Rattle.block_list.specs.declared.status.Status.TheVariants.{NonTried, NonTrimmed, NonScraped, BadSector, Finished}
use Rattle.ddrescueshow_cli.specs.declared.frame.Frame.{Frame}
use Rattle.ddrescueshow_cli.specs.declared.runs.Run.{Run}
use Rattle.ddrescueshow_cli.specs.Cells.{rows_in}
use Rattle.ddrescueshow_cli.specs.Runs.{run_at}

-- ---- the head

-- how wide a picture is, with room for the positions of the rows at the left
abbrev pub svg_width : Frame → ℕ
svg_width f = max (10 * f.width) 720 + 180

-- how high a picture is, with room for the text at the top and for the legend at the bottom
abbrev pub svg_height : Frame → ℕ
svg_height f = 16 * rows_in f + 220

-- the end of a pattern: a cell of this color with a shape on it
abbrev pub fill_text : (color shape : List ℕ) → List ℕ
fill_text color shape =
    color ++ codes "' d='M0 0h10v16H0z'/><path stroke='#000' stroke-width='2' d='" ++ shape ++ codes "'/></pattern>\n"

-- a pattern with a name: a cell of this color with a shape on it
abbrev pub pattern_text : (name color shape : List ℕ) → List ℕ
pattern_text name color shape =
    codes "<pattern id='" ++ name ++ codes "' width='10' height='16' patternUnits='userSpaceOnUse'><path fill='"
    ++ fill_text color shape

-- How each status is filled: finished green, non-tried gray, non-trimmed yellow with a dot, non-scraped blue with a
-- stroke, and bad-sector red with a cross. What isn't in the domain is left as it is.
abbrev pub svg_style : List ℕ
svg_style =
    codes "<style>.f{fill:#2b2}.n{fill:#ccc}.t{fill:url(#t)}.s{fill:url(#s)}.b{fill:url(#b)}.o{fill:none}</style>\n"
    ++ pattern_text (codes "t") (codes "#fd0") (codes "M4 8h2")
    ++ pattern_text (codes "s") (codes "#48f") (codes "M0 16L10 0")
    ++ pattern_text (codes "b") (codes "#e22") (codes "M0 16L10 0M0 0l10 16")

-- where the picture is
abbrev pub svg_open : Frame → List ℕ
svg_open f =
    codes "<svg xmlns='http://www.w3.org/2000/svg' viewBox='-160 -60 " ++ decimal (svg_width f) ++ codes " "
    ++ decimal (svg_height f) ++ codes "' font-family='monospace' font-size='12'>\n<title>"

-- where the picture is, and its title, with white ground for the largest picture
abbrev pub svg_top : Frame → (figures : List ℕ) → List ℕ
svg_top f figures =
    svg_open f ++ figures ++ codes "</title>\n<path fill='#fff' d='M-160-60h11000v17000h-11000z'/>\n"

-- both lines of text at the top: the figures, and the size of a cell
abbrev pub svg_lines : (figures cell : List ℕ) → List ℕ
svg_lines figures cell =
    (codes "<text y='-40'>" ++ figures ++ codes "</text>\n") ++ codes "<text y='-20'>" ++ cell ++ codes "</text>\n"

-- the whole head: the title, how statuses are filled, and both lines of text
abbrev pub svg_head : Frame → (figures cell : List ℕ) → List ℕ
svg_head f figures cell = svg_top f figures ++ svg_style ++ svg_lines figures cell

-- ---- the rows

-- the letter of what a cell shows
abbrev pub class_of : Option Status → List ℕ
class_of None = codes "o"
class_of (Some Finished) = codes "f"
class_of (Some NonTried) = codes "n"
class_of (Some NonTrimmed) = codes "t"
class_of (Some NonScraped) = codes "s"
class_of (Some BadSector) = codes "b"

-- what follows is that far below the first row
abbrev pub group_text : (y : ℕ) → List ℕ
group_text y = codes "<g transform='translate(0 " ++ decimal y ++ codes ")'>"

-- a row begins with the position of its first cell
abbrev pub svg_front : (row position : ℕ) → List ℕ
svg_front row position =
    group_text (16 * row) ++ codes "<text x='-8' y='12' text-anchor='end'>" ++ decimal position ++ codes "</text>\n"

-- the rectangle of a run
abbrev pub rect_text : Run → List ℕ
rect_text r =
    (codes "<rect class='" ++ class_of r.shown ++ codes "' x='")
    ++ decimal (10 * r.from) ++ codes "' width='" ++ decimal (10 * r.count) ++ codes "' height='16'/>\n"

-- ---- the legend

-- the end of a line of the legend: what its cell means
abbrev pub name_text : (name : List ℕ) → List ℕ
name_text name = codes "<text x='20' y='12'>" ++ name ++ codes "</text></g>\n"

-- a line of the legend: a cell, and what that means
abbrev pub meaning_text : (y : ℕ) → Option Status → (name : List ℕ) → List ℕ
meaning_text y shown name = group_text y ++ rect_text (run_at 0 shown) ++ name_text name

-- the lines of the legend for finished, non-tried and non-trimmed cells
abbrev pub first_meanings : List ℕ
first_meanings =
    meaning_text 20 (Some Finished) (codes "finished") ++ meaning_text 40 (Some NonTried) (codes "non-tried")
    ++ meaning_text 60 (Some NonTrimmed) (codes "non-trimmed")

-- the lines of the legend for non-scraped and bad cells, and for what isn't in the domain
abbrev pub other_meanings : List ℕ
other_meanings =
    meaning_text 80 (Some NonScraped) (codes "non-scraped") ++ meaning_text 100 (Some BadSector) (codes "bad-sector")
    ++ meaning_text 120 None (codes "blank: not in the domain")

-- the whole legend, under the rows, and the end of the picture
abbrev pub svg_foot : Frame → List ℕ
svg_foot f = group_text (16 * rows_in f) ++ first_meanings ++ other_meanings ++ codes "</g>\n</svg>\n"
