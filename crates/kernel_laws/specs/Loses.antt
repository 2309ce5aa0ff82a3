-- What a stop of the kernel may leave of what isn't synced.
use Rattle.std.specs.Prelude.{◌≡◌, ⊤, ℕ, List, [], ◌∷◌, ◌++◌, length, Option, Some, None}
use Rattle.kernel_files.specs.Volume.{Volume, Call, create, write, append, sync_file, rename, unlink, sync_folder, Entry as Step, Done as Did, Failed as Broke, after as after_steps, folder_of, IsAtRest, MayFind}
use Rattle.crash_site.specs.Files.{written}
use Rattle.kernel_laws.specs.Refines.{read_at}

abbrev pub call_of : Step → Call
call_of (Did call) = call
call_of (Broke call) = call

-- the file that a call may change
abbrev pub file_of : Call → Option ℕ
file_of (create name i) = Some i
file_of (write i pos piece) = Some i
file_of (append i piece) = Some i
file_of (sync_file i) = Some i
file_of (rename from to) = None
file_of (unlink name) = None
file_of (sync_folder folder) = None

-- the calls on this file are syncs alone
abbrev pub OnlySyncs : ℕ → List Step → Type 0
OnlySyncs i [] = ⊤
OnlySyncs i (e ∷ es) = (file_of (call_of e) ≡ Some i → call_of e ≡ sync_file i) × OnlySyncs i es

-- this call isn't made, or each time it failed
abbrev pub NeverReturns : Call → List Step → Type 0
NeverReturns call [] = ⊤
NeverReturns call (e ∷ es) = (e ≡ Did call → ⊥) × NeverReturns call es

-- this call writes to this file
abbrev pub WritesTo : ℕ → Call → Type 0
WritesTo i (write j pos piece) = j ≡ i
WritesTo i (append j piece) = j ≡ i
WritesTo i call = ⊥

-- The files as they read are one outcome.
abbrev pub ReadFilesMayBeFound : Type 0
ReadFilesMayBeFound = (v : Volume) (es : List Step) (name : List ℕ) → IsAtRest v
    → MayFind (after_steps v es) name (read_at (after_steps v es).nodes ((after_steps v es).names name))

-- Until a sync of its folder returns, what a name had at first may be found: the file that it led to, if nothing was
-- written to it, or none.
abbrev pub OldNameMayBeFound : Type 0
OldNameMayBeFound = (v : Volume) (es : List Step) (name : List ℕ) → IsAtRest v
    → NeverReturns (sync_folder (folder_of name)) es
    → ((i : ℕ) → v.names name ≡ Some i → OnlySyncs i es)
    → MayFind (after_steps v es) name (read_at v.nodes (v.names name))

-- Until a sync of its file returns, a write may be missing: the file is found as it read before.
abbrev pub UnsyncedWriteMayBeMissing : Type 0
UnsyncedWriteMayBeMissing =
    (v : Volume) (before since : List Step) (call : Call) (i : ℕ) (name : List ℕ) → IsAtRest v
    → WritesTo i call → OnlySyncs i since → NeverReturns (sync_file i) since
    → (after_steps v (before ++ Did call ∷ since)).names name ≡ Some i
    → MayFind (after_steps v (before ++ Did call ∷ since)) name (Some ((after_steps v before).nodes i).bytes)

-- Until then, a piece that was written may be found as any other.
abbrev pub UnsyncedPieceMayBeAny : Type 0
UnsyncedPieceMayBeAny =
    (v : Volume) (before since : List Step) (i pos : ℕ) (piece other name : List ℕ) → IsAtRest v
    → (piece ≡ [] → ⊥) → length other ≡ length piece
    → OnlySyncs i since → NeverReturns (sync_file i) since
    → (after_steps v (before ++ Did (write i pos piece) ∷ since)).names name ≡ Some i
    → MayFind (after_steps v (before ++ Did (write i pos piece) ∷ since)) name
    (Some (written ((after_steps v before).nodes i).bytes pos other))

-- The same of a piece that was added at its end.
abbrev pub UnsyncedEndMayBeAny : Type 0
UnsyncedEndMayBeAny =
    (v : Volume) (before since : List Step) (i : ℕ) (piece other name : List ℕ) → IsAtRest v
    → length other ≡ length piece → OnlySyncs i since → NeverReturns (sync_file i) since
    → (after_steps v (before ++ Did (append i piece) ∷ since)).names name ≡ Some i
    → MayFind (after_steps v (before ++ Did (append i piece) ∷ since)) name
    (Some (((after_steps v before).nodes i).bytes ++ other))

-- A piece that was written may be so after a sync of its file that failed, however many syncs return.
abbrev pub LostPieceMayBeAny : Type 0
LostPieceMayBeAny =
    (v : Volume) (before since : List Step) (i pos : ℕ) (piece other name : List ℕ) → IsAtRest v
    → (piece ≡ [] → ⊥) → length other ≡ length piece
    → OnlySyncs i since
    → (after_steps v (before ++ Did (write i pos piece) ∷ Broke (sync_file i) ∷ since)).names name ≡ Some i
    → MayFind (after_steps v (before ++ Did (write i pos piece) ∷ Broke (sync_file i) ∷ since)) name
    (Some (written ((after_steps v before).nodes i).bytes pos other))
