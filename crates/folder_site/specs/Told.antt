-- What a site over a kernel tells, and what it keeps of its kernel, its record and what is open.
use Rattle.std.specs.Prelude.{◌≡◌, ℕ, ◌+◌, Bool, true, false, ◌&&◌, IsTrue, List, [], ◌∷◌, ◌++◌, length, slice_range, Option, Some, None, Result, OnOk, OnErr}
use Rattle.fault_count.specs.Schedule.{no_schedule}
use Rattle.real_files.specs.Ahead.{Ahead}
use Rattle.crash_site.specs.Calls.{Call, Done}
use Rattle.crash_site.specs.CallsMade.{Lost}
use Rattle.crash_site.specs.SiteState.{SiteState}
use Rattle.kernel_files.specs.Volume.{Volume, folder_of, IsAtRest}
use Rattle.kernel_files.specs.Answers.{Told, volume, bytes_at}
use Rattle.site_record.specs.Record.{Noted}
use Rattle.kernel_laws.specs.Laws.{first_folder}
use Rattle.kernel_laws.specs.Deeds.{calls_of, IsAlone}
use Rattle.kernel_laws.specs.Site.{Opened, Stands}

-- whether both tell: the kernel and the recorder
abbrev pub tells_both : Told → Noted → Bool
tells_both t r = t.tells && r.tells

-- What a site tells, by its kernel and its record. What is open and how many calls failed it has by itself.
abbrev pub site_state : Told → Noted → (is_open is_drafting : Bool) → (faults : ℕ) → SiteState
site_state t r is_open is_drafting faults = record {
  tells = tells_both t r;
  start = first_folder t.start;
  calls = calls_of r.notes t.calls;
  is_open = is_open;
  is_drafting = is_drafting;
  faults = faults;
  is_scheduled = false;
  schedule = no_schedule;
  starved = 0;
}

-- the same before anything is open
abbrev pub site_told : Told → Noted → SiteState
site_told t r = site_state t r false false 0

-- The record has one call more, by whether it returned Ok. One that failed isn't listed if it was refused, or if there
-- was no memory to note it.
pub record Lists {T E : Type 0} (call : Call) (result : Result T E) (old new : SiteState) : Type 0 where
  pub tells : new.tells ≡ old.tells
  pub start : IsTrue old.tells → new.start ≡ old.start
  pub done : OnOk result (IsTrue old.tells → new.calls ≡ old.calls ++ Done call ∷ [])
  pub lost : OnErr result (IsTrue old.tells → Lost call old.calls new.calls)

-- a flag of what is open; if nothing is, it is set
abbrev pub flag_of : Option Bool → Bool
flag_of None = true
flag_of (Some flag) = flag

-- what was read ahead are the file's bytes
abbrev pub IsHeld : List ℕ → Ahead → Type 0
IsHeld bytes a = a.bytes ≡ slice_range bytes a.pos (a.pos + length a.bytes)

-- the mapfile that is kept open is the one that its name leads to
abbrev pub IsKept : Told → Option (List ℕ × ℕ) → Type 0
IsKept t map = (m : List ℕ × ℕ) → map ≡ Some m → (volume t).names (m.0) ≡ Some (m.1)

-- the folder that is open beside the image, by its text, is that of the image's name
abbrev pub IsOwnFolder : Option (List ℕ × Option (List ℕ)) → Type 0
IsOwnFolder image = (name text : List ℕ) → image ≡ Some (name, Some text) → text ≡ folder_of name

-- The image's name leads to the image, and neither is the draft's. No draft is begun before something may have changed.
pub record IsOwn (v : Volume) (o : Opened) : Type 0 where
  pub named : (i : ℕ) → o.image ≡ Some i → (n : List ℕ) × (o.image_name ≡ Some n) × (v.names n ≡ Some i)
  pub apart : (n : List ℕ) → o.image_name ≡ Some n → o.draft_name ≡ Some n → ⊥
  pub own : (i : ℕ) → o.image ≡ Some i → o.draft ≡ Some i → ⊥
  pub idle : o.is_closed ≡ false → (o.draft ≡ None) × (o.draft_name ≡ None)

-- the files at first are durable as they read, and each has one name
abbrev pub IsSuited : Volume → Type 0
IsSuited v = IsAtRest v × ((name : List ℕ) → IsAlone name v)

-- What a site over a kernel keeps. Its record and what is open are as the laws ask, and the image is a file of its own.
-- The mapfile that is kept open is the one that its name leads to, and what was read ahead is the image's.
pub record Holds (t : Told) (r : Noted) (o : Opened) (kept : Option (List ℕ × ℕ)) (held : Ahead) : Type 0 where
  pub start : IsSuited t.start
  pub stands : IsTrue r.tells → Stands t.start r.notes t.calls o
  pub image : IsOwn (volume t) o
  pub map : IsKept t kept
  pub ahead : (i : ℕ) → o.image ≡ Some i → IsHeld (bytes_at t i) held

-- no call was made or noted, and the files suit
pub record IsNewSite (t : Told) (r : Noted) : Type 0 where
  pub start : IsTrue t.tells → IsSuited t.start
  pub calls : IsTrue t.tells → t.calls ≡ []
  pub notes : IsTrue r.tells → r.notes ≡ []
