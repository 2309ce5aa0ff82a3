-- The text that is printed of a map.
use Rattle.std.specs.Prelude.{ℕ, ◌-◌, List, [], ◌∷◌, ◌++◌, length, map, replicate, true, nat_lt, nat_eq, if◌then◌else◌, codes}
use Rattle.std.specs.List.{flat_map}
use Rattle.std.specs.Fmt.{decimal, digits}
use Rattle.block_list.specs.declared.status.Status.{Status}
use Rattle.block_list.specs.declared.block.Block.{Block}
use Rattle.block_list.specs.Status.{symbol}
use Rattle.block_list.specs.Stretches.{stretches}
use Rattle.mapfile_text.specs.declared.heading.Program.{Program}
use Rattle.mapfile_text.specs.declared.heading.Program.TheVariants.{Ddrescue, Ddrescuelog}
use Rattle.mapfile_text.specs.declared.state.Current.{Current}
use Rattle.mapfile_text.specs.declared.state.Current.TheVariants.{Copying, Trimming, Scraping, Retrying, Filling, Generating, Finished}
use Rattle.mapfile_text.specs.declared.state.MapState.{MapState}
use Rattle.mapfile_text.specs.HeadingLines.{HeadingLines}

-- a line ends with a newline
abbrev pub with_newline : List ℕ → List ℕ
with_newline text = text ++ 10 ∷ []

-- digits with zeros before them, so that they are at least eight
abbrev pub at_least_eight : List ℕ → List ℕ
at_least_eight ds = replicate (8 - length ds) 48 ++ ds

-- a position or a size: `0x` and at least eight upper-case hexadecimal digits
abbrev pub hexadecimal : ℕ → List ℕ
hexadecimal n = codes "0x" ++ at_least_eight (digits 16 true n)

-- a byte as a line shows it: a control character becomes a question mark
abbrev pub shown_byte : ℕ → ℕ
shown_byte b = if nat_lt b 32 then 63 else if nat_eq b 127 then 63 else b

-- the name of a program, as a mapfile has it
abbrev pub program_name : Program → List ℕ
program_name Ddrescue = codes "ddrescue"
program_name Ddrescuelog = codes "ddrescuelog"

-- the lines on the times, which ddrescue alone prints
abbrev pub time_lines : Program → ℕ → ℕ → List ℕ
time_lines Ddrescue start_s now_s =
    with_newline (codes "# Start time:   " ++ decimal start_s)
    ++ with_newline (codes "# Current time: " ++ decimal now_s)
time_lines Ddrescuelog start_s now_s = []

-- the line on the program that printed the mapfile
abbrev pub program_line : Program → List ℕ
program_line program = with_newline (codes "# Mapfile. Created by " ++ program_name program)

-- the line on the command line of the program that printed the mapfile
abbrev pub command_heading : List ℕ → List ℕ
command_heading line = with_newline (codes "# Command line: " ++ map shown_byte line)

-- the heading: the lines on the program, on its command line and on the times
abbrev pub heading_text : HeadingLines → List ℕ
heading_text h = program_line h.program ++ command_heading h.line ++ time_lines h.program h.start_s h.now_s

-- the character that a mapfile has for what a program was doing
abbrev pub current_symbol : Current → ℕ
current_symbol Copying = 63
current_symbol Trimming = 42
current_symbol Scraping = 47
current_symbol Retrying = 45
current_symbol Filling = 70
current_symbol Generating = 71
current_symbol Finished = 43

-- the position, five spaces, the current status, fifteen spaces, the pass
abbrev pub state_line : MapState → List ℕ
state_line s =
    with_newline
    (hexadecimal s.pos ++ replicate 5 32 ++ current_symbol s.current ∷ [] ++ replicate 15 32 ++ decimal s.pass)

-- the state's line, below one with the names of its columns
abbrev pub state_text : MapState → List ℕ
state_text s = with_newline (codes "# current_pos  current_status  current_pass") ++ state_line s

-- one line of a stretch: position, size and status, two spaces apart
abbrev pub block_line : Block → List ℕ
block_line b =
    with_newline (hexadecimal b.pos ++ codes "  " ++ hexadecimal b.size ++ codes "  " ++ symbol b.status ∷ [])

-- the text of a mapfile: the heading, the state, and a line for each maximal stretch of equal statuses
abbrev pub printed : HeadingLines → MapState → List Status → List ℕ
printed h s statuses =
    heading_text h ++ state_text s ++ with_newline (codes "#      pos        size  status")
    ++ flat_map block_line (stretches statuses)
