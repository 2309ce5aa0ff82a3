-- The calls that those of a site on its image make. For contracts and proofs: no promise uses it.
use Rattle.std.specs.Prelude.{◌≡◌, ◌⊎◌, ℕ, ◌+◌, ◌≤◌, Bool, true, false, List, [], ◌∷◌, ◌++◌, length, take, Option, Some, None}
use Rattle.kernel_files.specs.Volume.{Volume, create, write, sync_file, sync_folder, Entry, Done, Failed, IsNew}

-- the file that has a name is opened, or one is made if none has it
abbrev pub OpensOrMakes : Volume → List ℕ → ℕ → List Entry → Type 0
OpensOrMakes v name i es = ((v.names name ≡ Some i) × (es ≡ []))
    ⊎ ((v.names name ≡ None) × IsNew v i × (es ≡ Done (create name i) ∷ []))

-- no file was made, or that failed
abbrev pub BreaksMake : Volume → List ℕ → List Entry → Type 0
BreaksMake v name es = (es ≡ []) ⊎ ((i : ℕ) × (v.names name ≡ None) × IsNew v i × (es ≡ Failed (create name i) ∷ []))

-- an image is opened: the file that has its name, or a new one, or none if none has it and none is to be made
abbrev pub OpensImage : Volume → List ℕ → (make : Bool) → Option ℕ → List Entry → Type 0
OpensImage v name make None es = (v.names name ≡ None) × (make ≡ false) × (es ≡ [])
OpensImage v name make (Some i) es = ((v.names name ≡ Some i) × (es ≡ []))
    ⊎ ((v.names name ≡ None) × (make ≡ true) × IsNew v i × (es ≡ Done (create name i) ∷ []))

-- an open of the image that failed: before it made the file, or after that
abbrev pub BreaksOpen : Volume → List ℕ → Bool → ℕ → List Entry → Type 0
BreaksOpen v name make steps es = ((steps ≡ 0) × (es ≡ []))
    ⊎ ((i : ℕ) × (v.names name ≡ None) × (make ≡ true) × IsNew v i
    × (((steps ≡ 0) × (es ≡ Failed (create name i) ∷ [])) ⊎ ((steps ≡ 1) × (es ≡ Done (create name i) ∷ []))))

-- a piece is written from a place on, by one call or by several short ones
abbrev pub Writes : ℕ → ℕ → List ℕ → List Entry → Type 0
Writes i pos piece [] = piece ≡ []
Writes i pos piece (Done (write j at p) ∷ es) =
    (rest : List ℕ) × (j ≡ i) × (at ≡ pos) × (piece ≡ p ++ rest) × Writes i (pos + length p) rest es
Writes i pos piece (e ∷ es) = ⊥

-- a write that failed: it took `steps` bytes, by calls of which the last may have failed, within the piece
abbrev pub BreaksWrite : ℕ → ℕ → List ℕ → ℕ → List Entry → Type 0
BreaksWrite i pos piece steps es = (front : List Entry) × (steps ≤ length piece) × Writes i pos (take steps piece) front
    × ((es ≡ front) ⊎ ((rest : List ℕ) × (steps + length rest ≤ length piece)
    × (es ≡ front ++ Failed (write i (pos + steps) rest) ∷ [])))

-- an image is synced, and then its folder, if that is open
abbrev pub SyncsOpened : ℕ → (folder : Option (List ℕ)) → List Entry → Type 0
SyncsOpened i None es = es ≡ Done (sync_file i) ∷ []
SyncsOpened i (Some folder) es = es ≡ Done (sync_file i) ∷ Done (sync_folder folder) ∷ []

-- a sync of an image that failed: before its calls, at one of them, between them, or after both
abbrev pub BreaksSyncsOpened : ℕ → (folder : Option (List ℕ)) → List Entry → Type 0
BreaksSyncsOpened i folder es = (es ≡ [])
    ⊎ ((es ≡ Failed (sync_file i) ∷ [])
    ⊎ ((es ≡ Done (sync_file i) ∷ [])
    ⊎ ((text : List ℕ) × (folder ≡ Some text)
    × ((es ≡ Done (sync_file i) ∷ Failed (sync_folder text) ∷ [])
    ⊎ (es ≡ Done (sync_file i) ∷ Done (sync_folder text) ∷ [])))))
