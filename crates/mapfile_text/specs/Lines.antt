-- The lines of a text, and their fields.
use Rattle.std.specs.Prelude.{ℕ, ◌+◌, Bool, false, not, ◌||◌, List, [], ◌∷◌, length, filter, nat_eq}
use Rattle.std.specs.List.{slice_split}

-- the byte that ends a line
abbrev pub is_newline : ℕ → Bool
is_newline c = nat_eq c 10

-- the lines of a text: what is between its newlines
abbrev pub lines : List ℕ → List (List ℕ)
lines text = slice_split is_newline text

-- white space within a line: space, tab and carriage return
abbrev pub is_blank : ℕ → Bool
is_blank c = nat_eq c 32 || nat_eq c 9 || nat_eq c 13

-- the fields of a line: its longest parts without white space
abbrev pub fields : List ℕ → List (List ℕ)
fields line = filter (λ f. not (nat_eq (length f) 0)) (slice_split is_blank line)

-- a comment: its first field begins with `#`
abbrev pub is_comment : List (List ℕ) → Bool
is_comment [] = false
is_comment ([] ∷ fs) = false
is_comment ((c ∷ cs) ∷ fs) = nat_eq c 35

-- a line by its number, counted from 1, and its fields
pub record Line : Type 0 where
  pub number : ℕ
  pub fields : List (List ℕ)

-- lines, each with its fields, numbered in order from this number on
abbrev pub numbered_lines : ℕ → List (List ℕ) → List Line
numbered_lines n [] = []
numbered_lines n (l ∷ ls) = record { number = n; fields = fields l } ∷ numbered_lines (n + 1) ls

-- the lines of a text that aren't blank, in order: those with a field; a comment is one
abbrev pub filled_lines : List ℕ → List Line
filled_lines text = filter (λ l. not (nat_eq (length l.fields) 0)) (numbered_lines 1 (lines text))

-- the lines of a text that say something, in order: the filled ones that are no comments
abbrev pub said_lines : List ℕ → List Line
said_lines text = filter (λ l. not (is_comment l.fields)) (filled_lines text)
