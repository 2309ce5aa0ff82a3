-- Parts of a draft's calls. For contracts and proofs: no promise uses it.
use Rattle.std.specs.Prelude.{◌≡◌, ◌⊎◌, ℕ, List, [], ◌∷◌, ◌++◌}
use Rattle.kernel_files.specs.Volume.{Volume, append, Entry, Done, Failed}
use Rattle.kernel_files.specs.MapCalls.{Appends, BreaksBegin, BreaksAppend}

-- a begin failed after some steps
abbrev pub BreaksBeginAt : Volume → List ℕ → List Entry → Type 0
BreaksBeginAt v name es = (steps : ℕ) × BreaksBegin v name steps es

-- an append failed after some bytes
abbrev pub BreaksAppendAt : ℕ → List ℕ → List Entry → Type 0
BreaksAppendAt i piece es = (steps : ℕ) × BreaksAppend i piece steps es

-- nothing was written, or some front of a piece, so that this rest of it is left
abbrev pub AppendsOne : ℕ → (piece rest : List ℕ) → List Entry → Type 0
AppendsOne i piece rest es = ((es ≡ []) × (piece ≡ rest))
    ⊎ ((p : List ℕ) × (piece ≡ p ++ rest) × (es ≡ Done (append i p) ∷ []))

-- nothing was written, or the write failed
abbrev pub BreaksOne : ℕ → List Entry → Type 0
BreaksOne i es = (es ≡ []) ⊎ ((es ≡ Done (append i []) ∷ []) ⊎ ((p : List ℕ) × (es ≡ Failed (append i p) ∷ [])))

-- a piece is written, except for this rest of it
abbrev pub AppendsTo : ℕ → (piece rest : List ℕ) → List Entry → Type 0
AppendsTo i piece rest es = (front : List ℕ) × (piece ≡ front ++ rest) × Appends i front es
