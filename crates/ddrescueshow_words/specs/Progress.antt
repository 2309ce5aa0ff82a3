-- Whether the words ask to follow a rescue. For contracts and proofs: no promise uses it.
use Rattle.std.specs.Prelude.{ℕ, Bool, true, false, List, [], ◌∷◌, codes, if◌then◌else◌}
use Rattle.std.specs.Str.{bytes_eq}

-- a word before the first `--` is `--progress`
abbrev pub asks_progress : List (List ℕ) → Bool
asks_progress [] = false
asks_progress (word ∷ words) =
    if bytes_eq word (codes "--") then false
    else if bytes_eq word (codes "--progress") then true else asks_progress words
