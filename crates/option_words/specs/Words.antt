-- The words of a command line, by their numbers and as one text.
use Rattle.std.specs.Prelude.{ℕ, ◌-◌, List, [], ◌∷◌, ◌++◌, slice_index_or}
use Rattle.std.specs.List.{flat_map}

-- a word, counted from 1, as bytes
abbrev pub word : List (List ℕ) → ℕ → List ℕ
word words i = slice_index_or words (i - 1) []

-- the command line: the program's name, and a space before each word
abbrev pub command_line : (program : List ℕ) → List (List ℕ) → List ℕ
command_line program words = program ++ flat_map (λ w. 32 ∷ w) words
