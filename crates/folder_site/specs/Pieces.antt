-- Parts of the calls on an image. For contracts and proofs: no promise uses it.
use Rattle.std.specs.Prelude.{◌≡◌, ◌⊎◌, ℕ, ◌+◌, ◌≤◌, Bool, List, [], ◌∷◌, ◌++◌, length, take, drop, slice_range, Option, Some, None, if◌then◌else◌}
use Rattle.kernel_files.specs.Volume.{Volume, write, Entry, Done, Failed}
use Rattle.kernel_files.specs.Answers.{Told, bytes_at}
use Rattle.kernel_files.specs.ImageCalls.{BreaksOpen, Writes, BreaksWrite, SyncsOpened, BreaksSyncsOpened}

-- the bytes of a file from a place on, if they are told
abbrev pub left_of : Told → ℕ → ℕ → Option (List ℕ)
left_of t i pos = if t.tells then Some (drop pos (bytes_at t i)) else None

-- a read at a place gave what is there, and fewer bytes than it was asked for only if it came to the file's end
pub record IsWholeRead (bytes : List ℕ) (pos asked : ℕ) (buf : List ℕ) (n : ℕ) : Type 0 where
  pub came : take n buf ≡ slice_range bytes pos (pos + n)
  pub whole : (n ≡ asked) ⊎ (length bytes ≤ pos + n)

-- an open of the image failed after some steps
abbrev pub BreaksOpenAt : Volume → List ℕ → Bool → List Entry → Type 0
BreaksOpenAt v name make es = (steps : ℕ) × BreaksOpen v name make steps es

-- nothing was written, or some front of a piece, so that this rest of it is left
abbrev pub WritesOne : ℕ → ℕ → (piece rest : List ℕ) → List Entry → Type 0
WritesOne i at piece rest es = ((es ≡ []) × (piece ≡ rest))
    ⊎ ((p : List ℕ) × (piece ≡ p ++ rest) × (es ≡ Done (write i at p) ∷ []))

-- nothing was written, or the write failed
abbrev pub BreaksOneWrite : ℕ → ℕ → List ℕ → List Entry → Type 0
BreaksOneWrite i at piece es = (es ≡ [])
    ⊎ ((es ≡ Done (write i at []) ∷ []) ⊎ ((p : List ℕ) × (length p ≤ length piece) × (es ≡ Failed (write i at p) ∷ [])))

-- a piece is written, except for this rest of it
abbrev pub WritesTo : ℕ → (pos : ℕ) → (piece rest : List ℕ) → List Entry → Type 0
WritesTo i pos piece rest es = (front : List ℕ) × (piece ≡ front ++ rest) × Writes i pos front es

-- a write failed after some bytes
abbrev pub BreaksWriteAt : ℕ → ℕ → List ℕ → List Entry → Type 0
BreaksWriteAt i pos piece es = (steps : ℕ) × BreaksWrite i pos piece steps es

-- an image is synced with its folder, if one is open
abbrev pub SyncsOpen : (image : Option (ℕ × Option (List ℕ))) → List Entry → Type 0
SyncsOpen None es = es ≡ []
SyncsOpen (Some (i, folder)) es = SyncsOpened i folder es

-- that failed
abbrev pub BreaksSyncOpen : (image : Option (ℕ × Option (List ℕ))) → List Entry → Type 0
BreaksSyncOpen None es = es ≡ []
BreaksSyncOpen (Some (i, folder)) es = BreaksSyncsOpened i folder es
