-- What a text is found to be before memory is taken for its blocks.
-- For contracts and proofs: no promise uses it.
use Rattle.std.specs.Prelude.{◌≡◌, ℕ, ◌+◌, List, length}
use Rattle.block_list.specs.declared.status.Status.{Status}
use Rattle.mapfile_text.specs.declared.read.Mode.{Mode}
use Rattle.mapfile_reader.specs.declared.check.MapShape.{MapShape}
use Rattle.mapfile_text.specs.Lines.{Line, said_lines}
use Rattle.mapfile_text.specs.MapText.{Lists, IsMapText}

-- A text is a map of this shape: its state, first position and whether a block is listed are those of the reading. Its
-- end is the number of positions, and its lines are those after the status line that say something.
pub record IsMapShape (text : List ℕ) (mode : Mode) (shape : MapShape) : Type 0 where
  pub statuses : List Status
  pub reads : IsMapText text mode shape.state shape.first shape.listed statuses
  pub end : shape.end ≡ length statuses
  pub lines : shape.lines + 1 ≡ length (said_lines text)

-- block lines list statuses of this shape
pub record ListsShape (mode : Mode) (ls : List Line) (shape : MapShape) : Type 0 where
  pub statuses : List Status
  pub lists : Lists mode ls shape.first shape.listed statuses
  pub end : shape.end ≡ length statuses
  pub lines : shape.lines ≡ length ls

-- a text is a map
abbrev pub IsMap : List ℕ → Mode → Type 0
IsMap text mode = (shape : MapShape) × IsMapShape text mode shape
