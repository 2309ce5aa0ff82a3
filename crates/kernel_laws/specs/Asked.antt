-- What contracts of `folder_site` say of a settle and of the image, and what the laws ask of these. Its other contracts
-- name the same calls.
use Rattle.std.specs.Prelude.{◌≡◌, ℕ, Bool, List, [], ◌∷◌, Option, Some, None}
use Rattle.crash_site.specs.Folder.{Folder}
use Rattle.kernel_files.specs.Volume.{Volume, Entry as Step, folder_of}
use Rattle.kernel_files.specs.MapCalls.{SettlesFound, BreaksSettles}
use Rattle.kernel_files.specs.ImageCalls.{OpensImage, SyncsOpened, BreaksSyncsOpened}
use Rattle.kernel_laws.specs.Refines.{IsFirm, Begun}
use Rattle.kernel_laws.specs.Calls.{Opens, Settles, SyncsImage, BreaksSettle, BreaksSync}

-- A settle that returned made the calls that the laws ask for, if nothing of its file was lost before.
abbrev pub SettleIsAsAsked : Type 0
SettleIsAsAsked = (v : Volume) (name : List ℕ) (es : List Step)
    → ((j : ℕ) → v.names name ≡ Some j → (v.nodes j).lost ≡ [])
    → SettlesFound v name es → Settles v name es

-- One that failed did so after some steps that the laws know, if its file isn't the open image's.
abbrev pub FailedSettleIsAsAsked : Type 0
FailedSettleIsAsAsked = (v : Volume) (image : Option ℕ) (name : List ℕ) (es : List Step)
    → ((j : ℕ) → image ≡ Some j → v.names name ≡ Some j → ⊥)
    → BreaksSettles v name es → (steps : ℕ) × BreaksSettle v image name steps es

-- An open of the image that returned made the calls that the laws ask for, if its name isn't the draft's, and what the
-- name leads to is durable, and has no other name.
abbrev pub OpenIsAsAsked : Type 0
OpenIsAsAsked = (v : Volume) (d : Folder) (name : List ℕ) (make : Bool) (image : Option ℕ) (es : List Step)
    → (d.draft ≡ Some name → ⊥) → v.may name ≡ v.names name ∷ []
    → ((i : ℕ) → v.names name ≡ Some i → Begun name i v × IsFirm (v.nodes i) × ((v.nodes i).lost ≡ []))
    → OpensImage v name make image es → Opens v d name make es image

-- A sync of the image that returned did so, if its open folder is the name's, or is not open and the entry is durable.
abbrev pub SyncIsAsAsked : Type 0
SyncIsAsAsked = (v : Volume) (d : Folder) (i : ℕ) (name : List ℕ) (folder : Option (List ℕ)) (es : List Step)
    → d.image ≡ Some name → ((text : List ℕ) → folder ≡ Some text → text ≡ folder_of name)
    → (folder ≡ None → v.may name ≡ Some i ∷ [])
    → SyncsOpened i folder es → SyncsImage v d (Some i) es

-- One that failed is one that the laws know.
abbrev pub FailedSyncIsAsAsked : Type 0
FailedSyncIsAsAsked = (d : Folder) (i : ℕ) (name : List ℕ) (folder : Option (List ℕ)) (es : List Step)
    → d.image ≡ Some name → ((text : List ℕ) → folder ≡ Some text → text ≡ folder_of name)
    → BreaksSyncsOpened i folder es → BreaksSync d (Some i) es
