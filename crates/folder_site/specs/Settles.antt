-- Parts of a settle's calls. For contracts and proofs: no promise uses it.
use Rattle.std.specs.Prelude.{◌≡◌, ◌⊎◌, ℕ, List, [], ◌∷◌, Some}
use Rattle.crash_site.specs.Files.{draft_of}
use Rattle.kernel_files.specs.Volume.{Volume, sync_file, Entry, Done, Failed}
use Rattle.kernel_files.specs.MapCalls.{Probes, BreaksTry}

-- a try of a draft that failed, or a failure after it
abbrev pub BreaksProbes : Volume → List ℕ → List Entry → Type 0
BreaksProbes v name es = BreaksTry v (draft_of name) es ⊎ Probes v name es

-- no call is made that a kernel tells
abbrev pub NoCalls : List Entry → Type 0
NoCalls es = es ≡ []

-- the file that has a name is synced
abbrev pub SyncsReached : Volume → List ℕ → List Entry → Type 0
SyncsReached v name es = (j : ℕ) × (v.names name ≡ Some j) × (es ≡ Done (sync_file j) ∷ [])

-- no file is synced, or its sync failed
abbrev pub BreaksReached : Volume → List ℕ → List Entry → Type 0
BreaksReached v name es = (es ≡ []) ⊎ ((j : ℕ) × (v.names name ≡ Some j) × (es ≡ Failed (sync_file j) ∷ []))
