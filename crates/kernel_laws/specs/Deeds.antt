-- The calls of a site that a recorder noted, each with the calls of the kernel that it made.
use Rattle.std.specs.Prelude.{◌≡◌, ◌⊎◌, ℕ, Bool, zero, suc, ◌+◌, ◌-◌, List, [], ◌∷◌, length, take, drop, Option, Some, if◌then◌else◌}
use Rattle.kernel_files.specs.Volume.{Volume, create, write, append, unlink, Entry as Step, Done as Did, after as after_steps, IsAtRest}
use Rattle.crash_site.specs.Calls.{Call, Entry, Done, Failed, image_open, image_write, draft_begin, draft_append, map_settle}
use Rattle.crash_site.specs.Folder.{Folder, after}
use Rattle.crash_site.specs.Disk.{Disk, entered}
use Rattle.site_record.specs.Record.{Note}
use Rattle.kernel_laws.specs.Calls.{Enters}
use Rattle.kernel_laws.specs.Laws.{Deed, entries, first_folder}

-- how many bytes these calls took
abbrev pub taken : List Step → ℕ
taken [] = 0
taken (Did (write i pos piece) ∷ es) = length piece + taken es
taken (Did (append i piece) ∷ es) = length piece + taken es
taken (e ∷ es) = taken es

-- how many files they made
abbrev pub made : List Step → ℕ
made [] = 0
made (Did (create name i) ∷ es) = suc (made es)
made (e ∷ es) = made es

-- how many names they removed
abbrev pub removed : List Step → ℕ
removed [] = 0
removed (Did (unlink name) ∷ es) = suc (removed es)
removed (e ∷ es) = removed es

-- the steps of a begin: the file that it removed, and the one that it made
abbrev pub begun_by : (made removed : ℕ) → ℕ
begun_by zero removed = removed
begun_by (suc n) removed = 2

-- how many of its steps a failed call made, by its calls of the kernel
abbrev pub steps_in : Call → List Step → ℕ
steps_in (image_open name make) es = made es
steps_in (image_write pos piece) es = taken es
steps_in (draft_begin name) es = begun_by (made es) (removed es)
steps_in (draft_append piece) es = taken es
steps_in (map_settle name) es = made es - removed es
steps_in call es = 0

-- the entry of a call that was noted
abbrev pub entry_of : Note → List Step → Entry
entry_of n es = if n.ok then Done n.call else Failed n.call (steps_in n.call es)

-- the calls that were noted, each with its part of the kernel's
abbrev pub deeds_of : List Note → List Step → List Deed
deeds_of [] es = []
deeds_of (n ∷ ns) es =
    record { entry = entry_of n (take n.made es); steps = take n.made es } ∷ deeds_of ns (drop n.made es)

-- how many calls of the kernel these calls made
abbrev pub total : List Note → ℕ
total [] = 0
total (n ∷ ns) = n.made + total ns

-- the site's record
abbrev pub calls_of : List Note → List Step → List Entry
calls_of ns es = entries (deeds_of ns es)

-- the files after these calls, as a site sees them
abbrev pub folder_after : Volume → List Note → List Step → Folder
folder_after v ns es = after (first_folder v) (calls_of ns es)

-- these calls were made in order, and then this draft is begun and this image open
abbrev pub RunsTo : Volume → Disk → (o k : Option ℕ) → List Deed → (p q : Option ℕ) → Type 0
RunsTo v d o k [] p q = (o ≡ p) × (k ≡ q)
RunsTo v d o k (a ∷ as_) p q = (m : Option ℕ) × (n : Option ℕ) × Enters v d.reads o k a.entry a.steps m n
    × RunsTo (after_steps v a.steps) (entered d a.entry) m n as_ p q

-- this call was noted
abbrev pub IsNoted : Call → List Note → Type 0
IsNoted call [] = ⊥
IsNoted call (n ∷ ns) = (n.call ≡ call) ⊎ IsNoted call ns

-- no other name leads to the file that has this one
abbrev pub IsAlone : List ℕ → Volume → Type 0
IsAlone name v = (i : ℕ) (n : List ℕ) → v.names name ≡ Some i → v.names n ≡ Some i → n ≡ name

-- The files at first are durable as they read, and none that is opened as the image has a second name.
pub record Suits (v : Volume) (ns : List Note) : Type 0 where
  pub rest : IsAtRest v
  pub alone : (name : List ℕ) (make : Bool) → IsNoted (image_open name make) ns → IsAlone name v
