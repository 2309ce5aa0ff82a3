-- What the definitions mean.
use Rattle.std.specs.Prelude.{◌≡◌, ◌↔◌, ℕ, ◌+◌, ◌*◌, ◌<◌, ◌≤◌, ◌^◌, Bool, true, false, IsTrue, List, [], ◌∷◌, ◌++◌, length, map, replicate, Option, Some, None, codes}
use Rattle.std.specs.List.{flat_map}
use Rattle.block_list.specs.declared.status.Status.{Status}
use Rattle.block_list.specs.declared.status.Status.TheVariants.{NonTried, NonTrimmed, NonScraped, BadSector, Finished}
use Rattle.crash_site.specs.Files.{File}
use Rattle.crash_site.specs.Left.{MayBeLeft}
use Rattle.crash_site.specs.SiteState.{SiteState, files_in}
use Rattle.map_counts.specs.At.{status_at}
use Rattle.map_algebra.specs.Compare.{IsDoneIn}
use Rattle.map_counts.specs.Summary.{summary_of}
use Rattle.mapfile_save.specs.SaveStops.{CouldBefore}
use Rattle.program_promise.specs.World.{Told}
use Rattle.program_promise.specs.Kinds.{IsVerdictKind}
use Rattle.program_promise.specs.Laws.{KeepsPromises}
use Rattle.program_promise.specs.Work.{Deeds}
use Rattle.ddrescueshow_words.specs.Command.{AreInLimits, Asks, Command}
use Rattle.ddrescueshow_words.specs.declared.options.Coloring.TheVariants.{Auto}
use Rattle.ddrescueshow_words.specs.declared.options.ShowOptions.{ShowOptions}
use Rattle.ddrescueshow_cli.specs.declared.ending.ShowEnding.{ShowEnding}
use Rattle.ddrescueshow_cli.specs.declared.form.Form.TheVariants.{Plain, Svg}
use Rattle.ddrescueshow_cli.specs.declared.frame.Frame.{Frame}
use Rattle.ddrescueshow_cli.specs.declared.runs.Run.{Run}
use Rattle.ddrescueshow_cli.specs.Cells.{IsFrame, begin_of, cells_in, end_of, end_shown, frame_of, mark, rows_in}
use Rattle.ddrescueshow_cli.specs.Answers.{row_of}
use Rattle.ddrescueshow_cli.specs.Runs.{cell_symbol, marks_of, runs_of}
use Rattle.ddrescueshow_cli.specs.Picture.{line_of, picture_text, run_text, share}
use Rattle.ddrescueshow_cli.specs.Work.{Found, ShowWorks, is_too_large}
use Rattle.ddrescueshow_cli.specs.Ddrescueshow.{Ddrescueshow, show_program}

-- ---- the cells

-- a position is in a cell
abbrev pub IsInCell : Frame → (x k : ℕ) → Type 0
IsInCell f x k = (begin_of f k ≤ x) × (x < end_of f k)

-- Each position of what is shown is in one cell, and no other position is in any.
pub record CellsTile (f : Frame) : Type 0 where
  pub one : (x : ℕ) → f.from ≤ x → x < f.to
      → (k : ℕ) × (k < cells_in f) × IsInCell f x k × ((other : ℕ) → IsInCell f x other → other ≡ k)
  pub none : (x k : ℕ) → IsInCell f x k → (f.from ≤ x) × (x < f.to)

-- Each position of what a picture shows is in one of its cells, for every picture.
abbrev pub AllCellsTile : Type 0
AllCellsTile = (f : Frame) → IsFrame f → CellsTile f

-- A cell is a whole number of sectors, at least one, and the picture fits into its rows. With fewer sectors it
-- wouldn't.
pub record IsLeastCell (o : ShowOptions) (end : ℕ) : Type 0 where
  pub sectors : ℕ
  pub some : 0 < sectors
  pub whole : (frame_of o end).cell ≡ o.sector * sectors
  pub fits : cells_in (frame_of o end) ≤ o.width * o.rows
  pub least : (fewer : ℕ) → 0 < fewer
      → end_shown o.input_position o.size end ≤ o.input_position + o.sector * fewer * (o.width * o.rows)
      → sectors ≤ fewer

-- The cells of a picture are as small as its rows allow, for all options within their limits.
abbrev pub CellsAreLeast : Type 0
CellsAreLeast = (o : ShowOptions) (end : ℕ) → AreInLimits o → IsLeastCell o end

-- how bad a status is
abbrev pub badness : Status → ℕ
badness Finished = 1
badness NonTried = 2
badness NonTrimmed = 3
badness NonScraped = 4
badness BadSector = 5

-- how bad a mark is: as bad as its status, and 0 if it has none
abbrev pub badness_of : Option Status → ℕ
badness_of None = 0
badness_of (Some s) = badness s

-- some position of a domain, from one position up to another, is as bad as a status or worse
pub record HasAsBad (domain : ℕ → Bool) (statuses : List Status) (from to : ℕ) (s : Status) : Type 0 where
  pub position : ℕ
  pub after : from ≤ position
  pub before : position < to
  pub inside : domain position ≡ true
  pub bad : badness s ≤ badness (status_at statuses position)

-- A cell hides nothing: what it shows is as bad as a status or worse if and only if some position of its range and of
-- the domain is.
abbrev pub MarksHideNothing : Type 0
MarksHideNothing = (f : Frame) (domain : ℕ → Bool) (statuses : List Status) (k : ℕ) (s : Status)
    → (badness s ≤ badness_of (mark f domain statuses k))
    ↔ HasAsBad domain statuses (begin_of f k) (end_of f k) s

-- ---- the runs

-- runs follow one another from a cell of a row on, and are these cells, each once
abbrev pub AreCells : (from : ℕ) → List Run → List (Option Status) → Type 0
AreCells from [] marks = marks ≡ []
AreCells from (r ∷ rs) marks =
    (rest : List (Option Status)) × (r.from ≡ from) × (0 < r.count) × (marks ≡ replicate r.count r.shown ++ rest)
    × AreCells (from + r.count) rs rest

-- The runs of a row, which SVG has as rectangles, are its cells.
abbrev pub RunsAreCells : Type 0
RunsAreCells = (marks : List (Option Status)) → AreCells 0 (runs_of marks) marks

-- Without color a row has the character of each of its cells.
abbrev pub PlainRowsAreCells : Type 0
PlainRowsAreCells = (marks : List (Option Status)) → flat_map (run_text Plain) (runs_of marks) ≡ map cell_symbol marks

-- A picture in SVG is shorter than 1 MiB, unless it is refused.
abbrev pub SvgIsShort : Type 0
SvgIsShort = (o : ShowOptions) (domain : ℕ → Bool) (statuses : List Status) → AreInLimits o → o.svg ≡ true
    → is_too_large o ≡ false → length statuses < 2 ^ 63
    → length (picture_text Svg (frame_of o (length statuses)) domain statuses) < 2 ^ 20

-- ---- the figures

-- The share is 100.00 % if and only if each position of the domain is finished.
abbrev pub AllIsFinishedAt100 : Type 0
AllIsFinishedAt100 = (domain : ℕ → Bool) (statuses : List Status)
    → ((x : ℕ) → domain x ≡ true → x < length statuses)
    → (share (line_of (summary_of domain statuses) 4).bytes (summary_of domain statuses).domain ≡ 10000)
    ↔ IsDoneIn domain statuses

-- ---- the calls

-- What every program keeps.
abbrev pub ShowKeepsPromises : Type 0
ShowKeepsPromises = (terminal : Bool) → KeepsPromises (show_program terminal)

-- an answer that the words and the maps lead to, whatever reads, puts and memory do
abbrev pub IsVerdict : ShowEnding → Type 0
IsVerdict e = IsVerdictKind (row_of e).kind

-- A command and the files found lead to at most one answer that is a verdict.
abbrev pub HasOneVerdict : Type 0
HasOneVerdict = (c : Command) (found : Found) (e e' : ShowEnding) (d d' : Deeds) → ShowWorks c found e d
    → ShowWorks c found e' d' → IsVerdict e → IsVerdict e' → e ≡ e'

-- All files are left as they were:
pub record LeavesAllFiles (old new : SiteState) : Type 0 where
  -- each reads as it did,
  pub reads : (name : List ℕ) → files_in new name ≡ files_in old name
  -- and at whatever moment a call is stopped, between or within its calls on the files, each is found as it could be
  -- before.
  pub stops : (k : ℕ) (files : List ℕ → Option File) (name : List ℕ) → length old.calls ≤ k → k ≤ length new.calls
      → MayBeLeft new.start new.calls k files → CouldBefore old name (files name)

-- If the files tell, all of them are left as they were, whatever is asked for, and however and whenever the call ends.
abbrev pub FilesStand : Type 0
FilesStand = (terminal : Bool) (t : Told ShowEnding) (c : Command) → Ddrescueshow terminal t → Asks t.words c
    → IsTrue t.before.site.tells → LeavesAllFiles t.before.site t.after.site

-- ---- a small picture

-- A map of ten bytes, in cells of two: `++++-++++?` at four cells a row and two rows, with sectors of one byte.
abbrev pub small_map : List Status
small_map =
    Finished ∷ Finished ∷ Finished ∷ Finished ∷ BadSector ∷ Finished ∷ Finished ∷ Finished ∷ Finished ∷ NonTried ∷ []

-- the options of the small picture: sectors of one byte, four cells a row, and two rows
abbrev pub small_options : ShowOptions
small_options = record {
  sector = 1;
  input_position = 0;
  size = None;
  width = 4;
  rows = 2;
  coloring = Auto;
  svg = false;
  loose = false;
  quiet = false;
}

-- the runs of cells in a row of the small picture
abbrev pub small_runs : (row : ℕ) → List Run
small_runs row = runs_of (marks_of (frame_of small_options 10) (λ x. true) small_map row)

-- The small map's picture has two rows, `++-+` and `?`, the first one in three runs; 8 of its 10 bytes are rescued,
-- which is 80.00 %.
abbrev pub SmallPicture : Type 0
SmallPicture =
    (frame_of small_options 10 ≡ record { from = 0; to = 10; cell = 2; width = 4 })
    × (rows_in (frame_of small_options 10) ≡ 2) × (flat_map (run_text Plain) (small_runs 0) ≡ codes "++-+")
    × (flat_map (run_text Plain) (small_runs 1) ≡ codes "?")
    × (small_runs 0 ≡ record { from = 0; count = 2; shown = Some Finished }
    ∷ record { from = 2; count = 1; shown = Some BadSector }
    ∷ record { from = 3; count = 1; shown = Some Finished } ∷ [])
    × ((line_of (summary_of (λ x. true) small_map) 4).bytes ≡ 8) × (share 8 10 ≡ 8000)
