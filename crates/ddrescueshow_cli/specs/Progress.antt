-- The line that says how far a rescue has come, by one of the rescue's own lines.
-- For contracts and proofs: no promise uses it.
use Rattle.std.specs.Prelude.{◌≡◌, ◌≢◌, ℕ, ◌+◌, ◌-◌, ◌/◌, ◌%◌, ◌^◌, ◌<◌, ◌≤◌, Bool, true, false, nat_eq, nat_lt, List, [], ◌∷◌, ◌++◌, length, replicate, Option, Some, None, codes, if◌then◌else◌}
use Rattle.std.specs.Fmt.{decimal}
use Rattle.block_list.specs.declared.areas.Count.{Count}
use Rattle.rescue_rules.specs.declared.report.Report.{Report}
use Rattle.rescue_rules.specs.Lines.{last_front, phase_text, report_text}
use Rattle.rescue_lines.specs.declared.lines.Figures.{Figures}
use Rattle.rescue_lines.specs.declared.lines.Head.{Head}
use Rattle.rescue_lines.specs.declared.lines.Head.TheVariants.{Phase, Last}
use Rattle.rescue_lines.specs.Lines.{IsHead, IsReport, figures_line, head_text, opening_front}
use Rattle.ddrescueshow_cli.specs.declared.follower.Known.{Known}
use Rattle.ddrescueshow_cli.specs.declared.rate.Sample.{Sample}
use Rattle.ddrescueshow_cli.specs.Picture.{share, share_text}
use Rattle.ddrescueshow_cli.specs.Rate.{lines_at, lines_with, rate_from}

-- how many columns a line has at most
abbrev pub columns : ℕ
columns = 79

-- a text, and a part after it if that fits
abbrev pub fit : (text part : List ℕ) → List ℕ
fit text part = if nat_lt columns (length text + length part) then text else text ++ part

-- the phase and its pass, or that the run is over
abbrev pub where_text : Head → List ℕ
where_text (Phase current pass) = phase_text current ++ codes " " ++ decimal pass
where_text (Last done) = last_front done

-- how much is rescued, in bytes
abbrev pub bytes_text : (rescued : ℕ) → List ℕ
bytes_text rescued = codes ", " ++ decimal rescued ++ codes " B rescued"

-- how much is rescued, as a share of the domain
abbrev pub share_part : (rescued size : ℕ) → List ℕ
share_part rescued size = codes ", " ++ share_text (share rescued size) ++ codes " %"

-- how much is rescued: the share of the domain, if its size is known, and else the bytes
abbrev pub done_text : (size : Option ℕ) → (rescued : ℕ) → List ℕ
done_text None rescued = bytes_text rescued
done_text (Some size) rescued = if nat_lt size rescued then bytes_text rescued else share_part rescued size

-- how many bytes failed, and in how many areas
abbrev pub failed_text : Count → List ℕ
failed_text n = codes ", " ++ decimal n.bytes ++ codes " B failed in " ++ decimal n.areas ++ codes " areas"

-- how often a read failed
abbrev pub errors_text : ℕ → List ℕ
errors_text n = codes ", " ++ decimal n ++ codes " errors"

-- the rate in thousands of bytes a second, if it is known
abbrev pub rate_text : Option ℕ → List ℕ
rate_text None = []
rate_text (Some rate) = codes ", " ++ decimal (rate / 1000) ++ codes " kB/s"

-- a time in hours and minutes
abbrev pub time_text : (seconds : ℕ) → List ℕ
time_text seconds =
    codes ", " ++ decimal (seconds / 3600) ++ codes ":" ++ decimal (seconds / 600 % 6)
    ++ decimal (seconds / 60 % 10) ++ codes " left"

-- the time in which the rest of the domain is rescued at a rate, if there is one
abbrev pub left_by : (size rescued rate : ℕ) → List ℕ
left_by size rescued rate =
    if nat_eq rate 0 then [] else if nat_lt rescued size then time_text ((size - rescued) / rate) else []

-- the time that is left, if the size of the domain and the rate are known
abbrev pub left_text : (size rate : Option ℕ) → (rescued : ℕ) → List ℕ
left_text None rate rescued = []
left_text (Some size) None rescued = []
left_text (Some size) (Some rate) rescued = left_by size rescued rate

-- The line, by the size of the domain and the rate, if they are known. A part that doesn't fit any more is left out.
abbrev pub progress_text : (size rate : Option ℕ) → Figures → List ℕ
progress_text size rate f =
    fit (fit (fit (fit (fit (where_text f.head) (done_text size f.rescued)) (failed_text f.failed))
    (errors_text f.errors)) (rate_text rate)) (left_text size rate f.rescued)

-- Each line of progress fits into the columns.
abbrev pub ProgressFits : Type 0
ProgressFits = (size rate : Option ℕ) (f : Figures) → IsHead f.head → length (progress_text size rate f) ≤ columns

-- ---- what is put

-- Over a line on a terminal the next one is put from its front on, and so are blanks up to the last column.
abbrev pub over_text : (text : List ℕ) → List ℕ
over_text text = 13 ∷ [] ++ text ++ replicate (columns - length text) 32

-- what is put of a line of progress: on a terminal over the one before it, and else as a line
abbrev pub shown_text : (terminal : Bool) → (text : List ℕ) → List ℕ
shown_text true text = over_text text
shown_text false text = text ++ 10 ∷ []

-- what is put of a line that isn't of progress: the line unchanged; over progress that is up, after blanks and a return
abbrev pub passed_text : (is_up : Bool) → (line : List ℕ) → List ℕ
passed_text true line = over_text [] ++ 13 ∷ [] ++ line
passed_text false line = line

-- the size of the domain after a line: the one with which the line begins, or else the one before it
pub data IsSizeAfter (line : List ℕ) (size size' : Option ℕ) : Type 0 where
  Opening : (n : ℕ) (rest : List ℕ) → n < 2 ^ 64 → line ≡ opening_front n ++ rest → size' ≡ Some n
      → IsSizeAfter line size size'
  Another : ((n : ℕ) (rest : List ℕ) → n < 2 ^ 64 → line ≢ opening_front n ++ rest) → size' ≡ size
      → IsSizeAfter line size size'

-- what a line of figures tells for the rate
abbrev pub sample_of : Figures → Sample
sample_of f = record { seconds = f.seconds; rescued = f.rescued }

-- the rate at a line of figures, from an earlier one
abbrev pub rate_in : Known → Figures → Option ℕ
rate_in known f = rate_from (sample_of f) (lines_at (sample_of f) known.lately)

-- what is known after a line of figures
abbrev pub after_figures : (terminal : Bool) → Known → Figures → Known
after_figures terminal known f = record {
  is_up = terminal;
  size = known.size;
  lately = lines_with (sample_of f) (lines_at (sample_of f) known.lately);
}

-- what is put of a line of figures
abbrev pub figures_text : (terminal : Bool) → Known → Figures → List ℕ
figures_text terminal known f = shown_text terminal (progress_text known.size (rate_in known f) f)

-- What is put of a line: that of its figures, if a rescue prints such a line, and else the line itself.
pub data IsSaid (terminal : Bool) (known known' : Known) (line text : List ℕ) : Type 0 where
  OfFigures : (f : Figures) → line ≡ figures_line f → text ≡ figures_text terminal known f
      → known' ≡ after_figures terminal known f → IsSaid terminal known known' line text
  Passed : ((head : Head) (r : Report) → IsHead head → IsReport r → line ≢ report_text (head_text head) r)
      → text ≡ passed_text known.is_up line → known'.is_up ≡ false → IsSizeAfter line known.size known'.size
      → known'.lately ≡ known.lately → IsSaid terminal known known' line text
