-- The lines of a rescue as they are read: the figures of a line, and the line that figures print to.
-- For contracts and proofs: no promise uses it.
use Rattle.std.specs.Prelude.{◌≡◌, ℕ, ◌+◌, ◌*◌, ◌/◌, ◌-◌, ◌^◌, ◌<◌, min, nat_eq, nat_lt, ⊤, Bool, true, false, List, [], ◌∷◌, ◌++◌, slice_index_or, Option, Some, codes, if◌then◌else◌}
use Rattle.std.specs.Char.{digit_value}
use Rattle.std.specs.Fmt.{decimal}
use Rattle.mapfile_text.specs.declared.state.Current.TheVariants.{Copying, Trimming, Scraping, Retrying, Filling, Generating, Finished}
use Rattle.rescue_rules.specs.declared.report.Report.{Report}
use Rattle.rescue_rules.specs.Lines.{last_front, phase_text, rate_of, report_text}
use Rattle.rescue_lines.specs.declared.lines.Figures.{Figures}
use Rattle.rescue_lines.specs.declared.lines.Head.{Head}
use Rattle.rescue_lines.specs.declared.lines.Head.TheVariants.{Phase, Last}
use Rattle.rescue_lines.specs.declared.lines.Start.{Start}
use Rattle.rescue_lines.specs.declared.lines.Start.TheVariants.{InPhase, Over}

-- what a line begins with: a phase and its pass, as after an event; or that the run is over, and whether it is done
abbrev pub head_text : Head → List ℕ
head_text (Phase current pass) = phase_text current ++ codes " pass " ++ decimal pass
head_text (Last done) = last_front done

-- the figures of a report
abbrev pub figures_of : Head → Report → Figures
figures_of head r = record {
  head = head;
  position = r.shown.pos;
  rescued = r.counts.rescued;
  failed = r.counts.failed;
  errors = r.errors;
  seconds = r.taken / 1000;
  rate = rate_of r.written r.taken;
}

-- the line that figures print to
abbrev pub figures_line : Figures → List ℕ
figures_line f =
    head_text f.head ++ codes ": position " ++ decimal f.position ++ codes ", rescued " ++ decimal f.rescued
    ++ codes " B, failed " ++ decimal f.failed.bytes ++ codes " B in " ++ decimal f.failed.areas ++ codes " areas, "
    ++ decimal f.errors ++ codes " read errors, " ++ decimal f.seconds ++ codes " s, " ++ decimal f.rate
    ++ codes " B/s" ++ 10 ∷ []

-- What a rescue prints of a report is the line of the report's figures.
abbrev pub LinesAreOfFigures : Type 0
LinesAreOfFigures = (head : Head) (r : Report) → report_text (head_text head) r ≡ figures_line (figures_of head r)

-- a head that a line may have: its pass fits its type
abbrev pub IsHead : Head → Type 0
IsHead (Phase current pass) = pass < 2 ^ 64
IsHead (Last done) = ⊤

-- a report that a line may have: its numbers fit their types
pub record IsReport (r : Report) : Type 0 where
  pub position : r.shown.pos < 2 ^ 64
  pub rescued : r.counts.rescued < 2 ^ 64
  pub bytes : r.counts.failed.bytes < 2 ^ 64
  pub areas : r.counts.failed.areas < 2 ^ 64
  pub errors : r.errors < 2 ^ 64
  pub taken : r.taken < 2 ^ 64
  pub written : r.written < 2 ^ 64

-- the size of the domain, which a rescue puts before its other lines if more is asked for: the line begins so
abbrev pub opening_front : (size : ℕ) → List ℕ
opening_front size = codes "domain of " ++ decimal size ++ codes " B from "

-- ---- a walk along a line

-- a text is what comes next; what is left is none if the line turned out to be another one
pub record Strips (piece : List ℕ) (old new : Option (List ℕ)) : Type 0 where
  pub printed : (rest : List ℕ) → new ≡ Some rest → old ≡ Some (piece ++ rest)
  pub read : (rest : List ℕ) → old ≡ Some (piece ++ rest) → new ≡ Some rest

-- what comes next is a number below a limit, and then a text
pub record StripsNumber (limit : ℕ) (after : List ℕ) (result : ℕ) (old new : Option (List ℕ)) : Type 0 where
  pub printed : (rest : List ℕ) → new ≡ Some rest → old ≡ Some (decimal result ++ (after ++ rest))
  pub read : (n : ℕ) (rest : List ℕ) → n < limit → old ≡ Some (decimal n ++ (after ++ rest))
      → (result ≡ n) × (new ≡ Some rest)

-- what comes next is a line's head, and then the front of its first figure
pub record StripsHead (Is : Head → Type 0) (result : Head) (old new : Option (List ℕ)) : Type 0 where
  pub printed : (rest : List ℕ) → new ≡ Some rest → old ≡ Some (head_text result ++ (codes ": position " ++ rest))
  pub read : (head : Head) (rest : List ℕ) → Is head
      → old ≡ Some (head_text head ++ (codes ": position " ++ rest)) → (result ≡ head) × (new ≡ Some rest)

-- a text begins with a byte that is no digit
abbrev pub begins_plain : List ℕ → Bool
begins_plain [] = false
begins_plain (c ∷ cs) = nat_lt 9 (digit_value c)

-- the largest value that is read from digits: the largest of 128 bits
abbrev pub most : ℕ
most = 2 ^ 128 - 1

-- the value of the digits with which a text begins, after digits of a value; the largest of 128 bits if it is larger
abbrev pub number_at : (value : ℕ) → List ℕ → ℕ
number_at value [] = value
number_at value (c ∷ cs) =
    if nat_lt 9 (digit_value c) then value else number_at (min (min (value * 10) most + digit_value c) most) cs

-- how a line begins that has these bytes at its front, if it is one of a rescue
abbrev pub start_by : (first third ninth : ℕ) → Start
start_by first third ninth =
    if nat_eq first 99 then InPhase Copying
    else if nat_eq first 116 then InPhase Trimming
    else if nat_eq first 114 then InPhase Retrying
    else if nat_eq first 103 then InPhase Generating
    else if nat_eq third 114 then InPhase Scraping
    else if nat_eq third 111 then Over false
    else if nat_eq third 108 then InPhase Filling
    else if nat_eq ninth 32 then InPhase Finished
    else Over true

-- how a line begins, by its first, third and ninth byte, if it is one of a rescue
abbrev pub start_of : List ℕ → Start
start_of line = start_by (slice_index_or line 0 0) (slice_index_or line 2 0) (slice_index_or line 8 0)

-- how a line with a head begins
abbrev pub start_with : Head → Start
start_with (Phase current pass) = InPhase current
start_with (Last done) = Over done
