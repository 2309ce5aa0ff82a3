-- The calls that those of a site on a draft and a mapfile make. For contracts and proofs: no promise uses it.
use Rattle.std.specs.Prelude.{◌≡◌, ◌⊎◌, ℕ, List, [], ◌∷◌, ◌++◌, take, Option, Some, None}
use Rattle.crash_site.specs.Files.{draft_of}
use Rattle.kernel_files.specs.Volume.{Volume, create, append, sync_file, unlink, sync_folder, Entry, Done, Failed, after_done, folder_of, IsNew}

-- a file is made under a name, of which an older one is removed first
abbrev pub Begins : Volume → List ℕ → ℕ → List Entry → Type 0
Begins v name i es =
    ((v.names name ≡ None) × IsNew v i × (es ≡ Done (create name i) ∷ []))
    ⊎ (IsNew (after_done (unlink name) v) i × (es ≡ Done (unlink name) ∷ Done (create name i) ∷ []))

-- a piece is written, by one call or by several short ones
abbrev pub Appends : ℕ → List ℕ → List Entry → Type 0
Appends i piece [] = piece ≡ []
Appends i piece (Done (append j p) ∷ es) =
    (rest : List ℕ) × (j ≡ i) × (piece ≡ p ++ rest) × Appends i rest es
Appends i piece (e ∷ es) = ⊥

-- a begin that failed: before it removed anything, before it made the draft, or after that
abbrev pub BreaksBegin : Volume → List ℕ → ℕ → List Entry → Type 0
BreaksBegin v name steps es =
    ((steps ≡ 0) × (es ≡ []))
    ⊎ (((steps ≡ 0) × (es ≡ Failed (unlink name) ∷ []))
    ⊎ (((steps ≡ 1) × (es ≡ Done (unlink name) ∷ []))
    ⊎ (((i : ℕ) × (steps ≡ 1) × IsNew (after_done (unlink name) v) i
    × (es ≡ Done (unlink name) ∷ Failed (create name i) ∷ []))
    ⊎ (((i : ℕ) × (steps ≡ 0) × IsNew v i × (es ≡ Failed (create name i) ∷ []))
    ⊎ ((i : ℕ) × (steps ≡ 2) × Begins v name i es)))))

-- an append that failed: it took `steps` bytes of the piece, and then a call may have failed, with any bytes
abbrev pub BreaksAppend : ℕ → List ℕ → ℕ → List Entry → Type 0
BreaksAppend i piece steps es = (front : List Entry) × Appends i (take steps piece) front
    × ((es ≡ front) ⊎ ((rest : List ℕ) × (es ≡ front ++ Failed (append i rest) ∷ [])))

-- a name is absent, or removed
abbrev pub Removes : Volume → List ℕ → List Entry → Type 0
Removes v name es = ((v.names name ≡ None) × (es ≡ [])) ⊎ (es ≡ Done (unlink name) ∷ [])

-- whether a draft could be made under a name is tried out, or not
abbrev pub Tries : Volume → List ℕ → List Entry → Type 0
Tries v draft es = (es ≡ [])
    ⊎ ((v.names draft ≡ None) × (i : ℕ) × IsNew v i × (es ≡ Done (create draft i) ∷ Done (unlink draft) ∷ []))

abbrev pub Probes : Volume → List ℕ → List Entry → Type 0
Probes v name es = Tries v (draft_of name) es

-- the folder of a name is synced, and then the file, if there is one
abbrev pub SyncsFound : List ℕ → Option ℕ → List Entry → Type 0
SyncsFound name None es = es ≡ Done (sync_folder (folder_of name)) ∷ []
SyncsFound name (Some j) es = es ≡ Done (sync_folder (folder_of name)) ∷ Done (sync_file j) ∷ []

-- a settle, whatever was lost of the file
abbrev pub SettlesFound : Volume → List ℕ → List Entry → Type 0
SettlesFound v name es =
    (probe : List Entry) × (syncs : List Entry) × Probes v name probe × SyncsFound name (v.names name) syncs
    × (es ≡ probe ++ syncs)

-- a try of a draft that failed: before it made one, or at its removal
abbrev pub BreaksTry : Volume → List ℕ → List Entry → Type 0
BreaksTry v draft es = (es ≡ [])
    ⊎ ((v.names draft ≡ None) × (i : ℕ) × IsNew v i
    × ((es ≡ Failed (create draft i) ∷ [])
    ⊎ ((es ≡ Done (create draft i) ∷ []) ⊎ (es ≡ Done (create draft i) ∷ Failed (unlink draft) ∷ []))))

-- syncs that failed: before them, at the folder, between both, or at the file that the name leads to
abbrev pub BreaksSyncs : List ℕ → Option ℕ → List Entry → Type 0
BreaksSyncs name e es = (es ≡ [])
    ⊎ ((es ≡ Failed (sync_folder (folder_of name)) ∷ [])
    ⊎ ((es ≡ Done (sync_folder (folder_of name)) ∷ [])
    ⊎ ((j : ℕ) × (e ≡ Some j) × (es ≡ Done (sync_folder (folder_of name)) ∷ Failed (sync_file j) ∷ []))))

-- a settle that failed at the try of a draft, or at its syncs
abbrev pub BreaksSettles : Volume → List ℕ → List Entry → Type 0
BreaksSettles v name es = BreaksTry v (draft_of name) es
    ⊎ ((probe : List Entry) × (syncs : List Entry) × Probes v name probe × BreaksSyncs name (v.names name) syncs
    × (es ≡ probe ++ syncs))
