-- The cells of a row as runs of equal ones.
use Rattle.std.specs.Prelude.{ℕ, ◌+◌, ◌*◌, Bool, List, [], ◌∷◌, map, nat_eq, Option, Some, None, if◌then◌else◌}
use Rattle.std.specs.List.{range_with_len}
use Rattle.block_list.specs.declared.status.Status.{Status}
use Rattle.block_list.specs.Status.{symbol}
use Rattle.ddrescueshow_cli.specs.declared.frame.Frame.{Frame}
use Rattle.ddrescueshow_cli.specs.declared.runs.Run.{Run}
use Rattle.ddrescueshow_cli.specs.Cells.{cells_of_row, mark}

-- a cell's character: that of the worst status, and a blank if no position is in the domain
abbrev pub cell_symbol : Option Status → ℕ
cell_symbol None = 32
cell_symbol (Some s) = symbol s

-- two cells show the same
abbrev pub same_shown : Option Status → Option Status → Bool
same_shown m n = nat_eq (cell_symbol m) (cell_symbol n)

-- what `count` cells show from one on
abbrev pub marks_from : Frame → (domain : ℕ → Bool) → List Status → (first count : ℕ) → List (Option Status)
marks_from f domain statuses first count = map (mark f domain statuses) (range_with_len first count)

-- what the cells of a row show
abbrev pub marks_of : Frame → (domain : ℕ → Bool) → List Status → (row : ℕ) → List (Option Status)
marks_of f domain statuses row = marks_from f domain statuses (row * f.width) (cells_of_row f row)

-- a run of one cell, by its number in the row
abbrev pub run_at : (from : ℕ) → (shown : Option Status) → Run
run_at from shown = record { from = from; count = 1; shown = shown }

-- A run and the cells after it, as runs: it goes on with each cell that shows the same, and another begins with the
-- first that doesn't.
abbrev pub runs_on : Run → List (Option Status) → List Run
runs_on r [] = r ∷ []
runs_on r (m ∷ ms) =
    if same_shown r.shown m then runs_on (record r { count = r.count + 1 }) ms
    else r ∷ runs_on (run_at (r.from + r.count) m) ms

-- the runs of a row's cells
abbrev pub runs_of : List (Option Status) → List Run
runs_of [] = []
runs_of (m ∷ ms) = runs_on (run_at 0 m) ms
