-- Files that hold all that is owed to their mapfile.
use Rattle.std.specs.Prelude.{◌≡◌, ◌⊎◌, ℕ, Bool, true, List, length, Option}
use Rattle.crash_site.specs.Files.{File, bytes_of}
use Rattle.crash_site.specs.Left.{MayBeLeft}
use Rattle.rescue_rules.specs.Stops.{Before}
use Rattle.rescue_safety.specs.Saves.{CallsFinished}
use Rattle.rescue_safety.specs.Safe.{Target}
use Rattle.rescue_safety.specs.Owed.{last_given, HoldsLast}

-- Each position that the mapfile among these files calls finished is an old one, or the output holds its last byte.
pub record IsOwedIn (t : Target) (gave : List (ℕ × ℕ)) (old : ℕ → Bool) (files : List ℕ → Option File)
    : Type 0 where
  pub each : (x : ℕ) → CallsFinished (files t.mapfile) x
      → (old x ≡ true) ⊎ HoldsLast t (last_given gave) (bytes_of (files t.outfile)) x

-- In all files that may be found after these calls, each position called finished is old, or its last byte is held.
pub record IsOwedAt (t : Target) (gave : List (ℕ × ℕ)) (old : ℕ → Bool) (b : Before) : Type 0 where
  pub each : (files : List ℕ → Option File) → MayBeLeft b.start b.earlier (length b.earlier) files
      → IsOwedIn t gave old files
