-- What a stop of the kernel leaves of a rescue.
use Rattle.std.specs.Prelude.{◌≡◌, ℕ, ◌≤◌, List, ◌∷◌, ◌++◌, length, take, Option, Some, None}
use Rattle.crash_site.specs.Files.{File}
use Rattle.crash_site.specs.Calls.{Entry, Done, image_sync, map_settle}
use Rattle.kernel_files.specs.Volume.{Volume, MayFind}
use Rattle.kernel_files.specs.Answers.{Told}
use Rattle.site_record.specs.Record.{Noted}
use Rattle.kernel_laws.specs.Refines.{as_file}
use Rattle.kernel_laws.specs.Laws.{entries, steps_of}
use Rattle.kernel_laws.specs.Deeds.{deeds_of}
use Rattle.kernel_laws.specs.Site.{AlongDeeds}
use Rattle.rescue_rules.specs.Stops.{LeftBy}
use Rattle.rescue_safety.specs.Safe.{by_then, gives}
use Rattle.rescue_safety.specs.Saves.{CallsFinished}
use Rattle.rescue_safety.specs.Holds.{HoldsFinished}
use Rattle.rescue_safety.specs.Rescue.{Rescue, run_of}

-- What a stop of the kernel leaves is what a stop of the rescue leaves after its first k calls on files, with the next
-- in progress. So all laws on stops hold of it. The headline's two halves are written out: the output holds what the
-- mapfile found calls finished, and that calls finished what was kept before a save that returned began.
pub record IsAStop (r : Rescue) (k : ℕ) (found : List ℕ → Option File) : Type 0 where
  pub within : k ≤ length r.did.call.calls
  pub left : LeftBy (run_of r r.did.reads).past r.did.call.calls k found
  pub holds : r.command.test_map ≡ None → HoldsFinished (by_then (run_of r r.did.reads) k) k found
  pub saved : r.command.test_map ≡ None → (before saving after : List Entry) (name : List ℕ) (x byte : ℕ)
      → take k r.did.call.calls ≡ before ++ Done image_sync ∷ (saving ++ Done (map_settle name) ∷ after)
      → gives (by_then (run_of r r.did.reads) (length before)) x ≡ Some byte → CallsFinished (found r.mapfile) x

-- whatever the kernel's files may be found as, that is so
abbrev pub HoldsAt : Rescue → (k : ℕ) → Volume → Type 0
HoldsAt r k v = (found : List ℕ → Option (List ℕ)) → ((n : List ℕ) → MayFind v n (found n))
    → IsAStop r k (λ n. as_file (found n))

-- The kernel's calls are those of deeds, and each deed is a call of the rescue on files. It is so at each stop within
-- the kernel's calls, by how many of the deeds had ended, and after them.
pub record HoldsAtStops (r : Rescue) (t : Told) (n : Noted) : Type 0 where
  pub steps : steps_of (deeds_of n.notes t.calls) ≡ t.calls
  pub calls : entries (deeds_of n.notes t.calls) ≡ r.did.call.calls
  pub stops : AlongDeeds (HoldsAt r) 0 t.start (deeds_of n.notes t.calls)
