-- A text that is taken line by line, and a line field by field. For contracts and proofs: no promise uses it.
use Rattle.std.specs.Prelude.{ℕ, not, List, ◌∷◌, length, filter, nat_eq}
use Rattle.std.specs.List.{before_first, after_first}
use Rattle.mapfile_text.specs.Lines.{Line, lines, numbered_lines, is_newline, is_comment}

-- the first line of a text
abbrev pub first_line : List ℕ → List ℕ
first_line text = before_first is_newline text

-- what comes after the newline of the first line
abbrev pub after_line : List ℕ → List ℕ
after_line text = after_first is_newline text

-- the lines that aren't blank, in a text whose first line has this number
abbrev pub filled_from : ℕ → List ℕ → List Line
filled_from n text = filter (λ l. not (nat_eq (length l.fields) 0)) (numbered_lines n (lines text))

-- the lines among some that are no comments
abbrev pub no_comments : List Line → List Line
no_comments ls = filter (λ l. not (is_comment l.fields)) ls

-- a line that is taken field by field: its number, its first field, the fields that are left, and the filled lines
-- after it
pub record OpenLine : Type 0 where
  pub number : ℕ
  pub first : List ℕ
  pub more : List (List ℕ)
  pub after : List Line

-- the line that is taken field by field, with its first field and those that are left
abbrev pub line_of : OpenLine → Line
line_of l = record { number = l.number; fields = l.first ∷ l.more }
