-- What is left of a mapfile's text while it is printed part by part. For contracts and proofs: no promise uses it.
use Rattle.std.specs.Prelude.{◌≡◌, ℕ, ◌-◌, List, [], ◌∷◌, ◌++◌, length, map, take, drop, codes}
use Rattle.std.specs.List.{concat}
use Rattle.std.specs.Fmt.{decimal}
use Rattle.block_list.specs.declared.status.Status.{Status}
use Rattle.block_list.specs.Stretches.{stretches_after}
use Rattle.mapfile_text.specs.declared.heading.Program.{Program}
use Rattle.mapfile_text.specs.declared.heading.Program.TheVariants.{Ddrescue, Ddrescuelog}
use Rattle.mapfile_text.specs.declared.state.MapState.{MapState}
use Rattle.mapfile_text.specs.declared.text_position.TextPart.{TextPart}
use Rattle.mapfile_text.specs.declared.text_position.TextPart.TheVariants.{Program as ProgramLine, Label, Words, Newline, Start, Now, StateColumns, State, Columns, Block}
use Rattle.mapfile_text.specs.declared.text_position.TextPosition.{TextPosition}
use Rattle.mapfile_text.specs.HeadingLines.{HeadingLines}
use Rattle.mapfile_text.specs.Printed.{with_newline, shown_byte, program_line, state_line, block_line}

-- the line on when the run began, which ddrescue alone prints
abbrev pub start_line : Program → ℕ → List ℕ
start_line Ddrescue start_s = with_newline (codes "# Start time:   " ++ decimal start_s)
start_line Ddrescuelog start_s = []

-- the line on when the mapfile is saved, which ddrescue alone prints
abbrev pub now_line : Program → ℕ → List ℕ
now_line Ddrescue now_s = with_newline (codes "# Current time: " ++ decimal now_s)
now_line Ddrescuelog now_s = []

-- the parts of the text before the blocks: a line each, except the line on the command line, which may have any length
-- and is three
abbrev pub heading_parts : HeadingLines → MapState → List (List ℕ)
heading_parts h s =
    program_line h.program
    ∷ codes "# Command line: " ∷ map shown_byte h.line ∷ (10 ∷ [])
    ∷ start_line h.program h.start_s ∷ now_line h.program h.now_s
    ∷ with_newline (codes "# current_pos  current_status  current_pass") ∷ state_line s
    ∷ with_newline (codes "#      pos        size  status") ∷ []

-- how many of the heading's parts come before a part: all nine if it is a line of the map
abbrev pub number_of : TextPart → ℕ
number_of ProgramLine = 0
number_of Label = 1
number_of Words = 2
number_of Newline = 3
number_of Start = 4
number_of Now = 5
number_of StateColumns = 6
number_of State = 7
number_of Columns = 8
number_of (Block pos) = 9

-- the position from which the map's lines go on after the heading's parts that are left
abbrev pub position_of : TextPart → ℕ
position_of (Block pos) = pos
position_of part = 0

-- the lines of what is left of a map from a position on, one for each stretch
abbrev pub map_lines : ℕ → List Status → List (List ℕ)
map_lines pos statuses = map block_line (stretches_after pos statuses)

-- the parts of a mapfile's text from one on, in order: what is left of the heading's, and of the map's lines
unfoldable pub parts_from : TextPart → HeadingLines → MapState → List Status → List (List ℕ)
parts_from part h s statuses = drop (number_of part) (heading_parts h s) ++ map_lines (position_of part) statuses

-- what is left of a mapfile's text at a place: the parts from one on, less the bytes that went
unfoldable pub left_of : TextPosition → HeadingLines → MapState → List Status → List ℕ
left_of place h s statuses = drop place.went (concat (parts_from place.part h s statuses))

-- the first of `parts` was appended to `old`, as far as a piece had room for it, less the bytes of it that went; `len`
-- is its whole length, and `others` are the parts after it
pub record IsAppended (old new : List ℕ) (went len : ℕ) (parts others : List (List ℕ)) : Type 0 where
  pub part : List ℕ
  pub first : parts ≡ part ∷ others
  pub text : new ≡ old ++ take (4096 - length old) (drop went part)
  pub told : len ≡ length part
