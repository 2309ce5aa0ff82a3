-- The refinement: each stop of the kernel is one of the site.
use Rattle.std.specs.Prelude.{◌≡◌, ⊤, ℕ, List, [], ◌∷◌, ◌++◌, length, Option, Some, None}
use Rattle.kernel_files.specs.Volume.{Volume, Entry as Step, Done as Did, after as after_steps, sync_file, sync_folder, folder_of, IsAtRest, MayFind}
use Rattle.kernel_files.specs.Stops.{Along}
use Rattle.crash_site.specs.Calls.{Call, Entry, Done, Failed, image_sync, map_settle}
use Rattle.crash_site.specs.Folder.{Folder, after}
use Rattle.crash_site.specs.Disk.{Disk, at_rest, entered, lost_in, disk_after}
use Rattle.crash_site.specs.Left.{MatchesFile, MayBeLeft, MayShow}
use Rattle.crash_site.specs.Laws.{settles}
use Rattle.kernel_laws.specs.Refines.{as_file, files_of, Within, Follows}
use Rattle.kernel_laws.specs.Calls.{Makes, Breaks, Enters}

-- One call that returned Ok: at each stop within it the kernel leaves what the site's model says of the call made in
-- part, and the disk follows the files after it.
abbrev pub EachCallRefines : Type 0
EachCallRefines = (v : Volume) (d : Disk) (o k p q : Option ℕ) (call : Call) (es : List Step)
    → Follows v d o k → Makes v d.reads o k call es p q
    → Along (Within (entered d (Failed call 0))) v es × Follows (after_steps v es) (entered d (Done call)) p q

-- One call that failed: the same, and the disk follows the files after it, with the steps that it made.
abbrev pub EachFailureRefines : Type 0
EachFailureRefines = (v : Volume) (d : Disk) (o k p q : Option ℕ) (call : Call) (steps : ℕ) (es : List Step)
    → Follows v d o k → Breaks v d.reads o k call steps es p q
    → Along (Within (entered d (Failed call steps))) v es
    × Follows (after_steps v es) (entered d (Failed call steps)) p q

-- a call of the site, and the system calls that it made
pub record Deed : Type 0 where
  pub entry : Entry
  pub steps : List Step

-- these calls were made in order, each of them well or not
abbrev pub Runs : Volume → Disk → (o k : Option ℕ) → List Deed → Type 0
Runs v d o k [] = ⊤
Runs v d o k (a ∷ as_) = (p : Option ℕ) × (q : Option ℕ) × Enters v d.reads o k a.entry a.steps p q
    × Runs (after_steps v a.steps) (entered d a.entry) p q as_

abbrev pub entries : List Deed → List Entry
entries [] = []
entries (a ∷ as_) = a.entry ∷ entries as_

abbrev pub steps_of : List Deed → List Step
steps_of [] = []
steps_of (a ∷ as_) = a.steps ++ steps_of as_

-- the files at first, as a site sees them
abbrev pub first_folder : Volume → Folder
first_folder v = record { files = files_of v; image = None; draft = None }

-- what the site's record may leave after k calls, the kernel's files may be
abbrev pub IsLeft : Folder → List Entry → ℕ → Volume → Type 0
IsLeft start calls k w = (found : List ℕ → Option (List ℕ)) → ((n : List ℕ) → MayFind w n (found n))
    → MayBeLeft start calls k (λ n. as_file (found n))

-- Whatever a stop of the kernel leaves within the system calls of a site's call, after any calls before it, `MayBeLeft`
-- allows with that call in progress. Any of the calls may have failed.
abbrev pub EachStopRefines : Type 0
EachStopRefines = (v : Volume) (before : List Deed) (deed : Deed) (later : List Deed) → IsAtRest v
    → Runs v (at_rest (first_folder v)) None None (before ++ deed ∷ later)
    → Along (IsLeft (first_folder v) (entries (before ++ deed ∷ later)) (length before))
    (after_steps v (steps_of before)) deed.steps

-- The same after the last call of a run.
abbrev pub EachEndRefines : Type 0
EachEndRefines = (v : Volume) (deeds : List Deed) → IsAtRest v → Runs v (at_rest (first_folder v)) None None deeds
    → IsLeft (first_folder v) (entries deeds) (length deeds) (after_steps v (steps_of deeds))

-- A text that was synced, published and settled by calls that returned is all that a stop of the kernel leaves under
-- its name.
abbrev pub SavedTextIsLeft : Type 0
SavedTextIsLeft =
    (v : Volume) (before save : List Deed) (draft name : List ℕ) (found : Option (List ℕ)) → IsAtRest v
    → Runs v (at_rest (first_folder v)) None None (before ++ save)
    → entries save ≡ settles name
    → (after (first_folder v) (entries before)).draft ≡ Some draft
    → MayFind (after_steps v (steps_of (before ++ save))) name found
    → as_file found ≡ (after (first_folder v) (entries before)).files draft

-- After an image sync that returned, a stop of the kernel leaves the image as it reads, except for what was lost of it.
abbrev pub SyncedImageIsLeft : Type 0
SyncedImageIsLeft =
    (v : Volume) (before : List Deed) (sync : Deed) (name : List ℕ) (found : Option (List ℕ)) → IsAtRest v
    → Runs v (at_rest (first_folder v)) None None (before ++ sync ∷ [])
    → sync.entry ≡ Done image_sync
    → (after (first_folder v) (entries before)).image ≡ Some name
    → MayFind (after_steps v (steps_of (before ++ sync ∷ []))) name found
    → MatchesFile ((after (first_folder v) (entries before)).files name)
    (lost_in ((disk_after (at_rest (first_folder v)) (entries before)).shows name)) (as_file found)

-- The site's model is kinder than a kernel in one case. A mapfile's sync failed before, and all of it is lost. Then a
-- settle whose calls all return may still leave other bytes, and the site's model says that only the file's own are
-- found.
abbrev pub RetriedSettleIsNotRefined : Type 0
RetriedSettleIsNotRefined = (v : Volume) (d : Disk) (name bytes : List ℕ) (j : ℕ)
    → v.names name ≡ Some j → (v.nodes j).lost ≡ (0, length (v.nodes j).bytes) ∷ []
    → d.reads.files name ≡ files_of v name
    → length bytes ≡ length (v.nodes j).bytes → (bytes ≡ (v.nodes j).bytes → ⊥)
    → MayFind (after_steps v (Did (sync_folder (folder_of name)) ∷ Did (sync_file j) ∷ [])) name (Some bytes)
    × (MayShow ((entered d (Done (map_settle name))).shows name) (as_file (Some bytes)) → ⊥)
