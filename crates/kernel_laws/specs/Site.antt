-- What a site over a kernel has open, and what holds of it after its calls.
use Rattle.std.specs.Prelude.{◌≡◌, ℕ, suc, Bool, true, false, List, [], ◌∷◌, length, Option, Some, None}
use Rattle.kernel_files.specs.Volume.{Node, Volume, Entry as Step, after as after_steps}
use Rattle.kernel_files.specs.Stops.{Along}
use Rattle.crash_site.specs.Disk.{at_rest}
use Rattle.site_record.specs.Record.{Note}
use Rattle.kernel_laws.specs.Laws.{Deed, IsLeft, steps_of, first_folder}
use Rattle.kernel_laws.specs.Deeds.{deeds_of, calls_of, folder_after, total, RunsTo, Suits}

-- What is open: the image and its name, whether its folder is open too, the begun draft and its name, whether that was
-- synced since it was last added to, and whether a call on it failed. A draft that was left unsynced, whether what was
-- open was let go without a call that is noted, and whether an image can't be opened any more.
pub record Opened : Type 0 where
  pub image : Option ℕ
  pub image_name : Option (List ℕ)
  pub has_folder : Bool
  pub draft : Option ℕ
  pub draft_name : Option (List ℕ)
  pub is_firm : Bool
  pub is_lost : Bool
  pub left : Option (List ℕ)
  pub is_dropped : Bool
  pub is_closed : Bool

-- nothing of a file waits for a sync, and nothing is lost
pub record IsCalm (f : Node) : Type 0 where
  pub loose : f.loose ≡ []
  pub lost : f.lost ≡ []

-- what holds of the files after these calls, if nothing was let go
pub record IsRun (v : Volume) (ns : List Note) (es : List Step) (o : Opened) : Type 0 where
  pub runs : RunsTo v (at_rest (first_folder v)) None None (deeds_of ns es) o.draft o.image
  pub image : (folder_after v ns es).image ≡ o.image_name
  pub draft : (folder_after v ns es).draft ≡ o.draft_name
  pub entry : o.has_folder ≡ false → (name : List ℕ) (i : ℕ) → o.image_name ≡ Some name → o.image ≡ Some i
      → (after_steps v es).may name ≡ Some i ∷ []
  pub firm : o.is_firm ≡ true → (i : ℕ) → o.draft ≡ Some i → IsCalm ((after_steps v es).nodes i)
  pub lost : o.is_lost ≡ false → (i : ℕ) → o.draft ≡ Some i → ((after_steps v es).nodes i).lost ≡ []
  pub calm : (name : List ℕ) (i : ℕ) → (after_steps v es).names name ≡ Some i → (o.image_name ≡ Some name → ⊥)
      → (o.draft_name ≡ Some name → ⊥) → (o.left ≡ Some name → ⊥) → IsCalm ((after_steps v es).nodes i)

-- What a site over a kernel keeps: the files at first, the calls that were noted, the kernel's calls since, and what is
-- open.
pub record Stands (v : Volume) (ns : List Note) (es : List Step) (o : Opened) : Type 0 where
  pub counted : total ns ≡ length es
  pub run : o.is_dropped ≡ false → Suits v ns → IsRun v ns es o
  pub gone : o.is_dropped ≡ true → Suits v ns
      → (p : Option ℕ) × (q : Option ℕ) × RunsTo v (at_rest (first_folder v)) None None (deeds_of ns es) p q
  pub first : o.is_closed ≡ false → es ≡ []

-- A property of a stop by how many calls of the site had ended. It holds at each stop within the calls of the kernel
-- that these deeds made, the first of them after k others, and after the last one.
abbrev pub AlongDeeds : (ℕ → Volume → Type 0) → (k : ℕ) → Volume → List Deed → Type 0
AlongDeeds P k v [] = P k v
AlongDeeds P k v (a ∷ as_) = Along (P k) v a.steps × AlongDeeds P (suc k) (after_steps v a.steps) as_

-- The deeds have all calls of the kernel. What a stop within those of a deed leaves, the site's record may leave after
-- the calls before the deed, with that of the deed in progress.
abbrev pub AreLeft : Volume → List Note → List Step → Type 0
AreLeft v ns es = (steps_of (deeds_of ns es) ≡ es)
    × AlongDeeds (IsLeft (first_folder v) (calls_of ns es)) 0 v (deeds_of ns es)

-- it does if the files at first suit
abbrev pub StopsAreLeft : Volume → List Note → List Step → Type 0
StopsAreLeft v ns es = Suits v ns → AreLeft v ns es

-- Whatever a stop of the kernel leaves at any of its calls, the site's record may leave.
abbrev pub AnyStopIsLeft : Type 0
AnyStopIsLeft = (v : Volume) (ns : List Note) (es : List Step) (o : Opened) → Stands v ns es o → StopsAreLeft v ns es
