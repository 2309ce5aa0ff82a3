-- What a run leaves that is done.
use Rattle.std.specs.Prelude.{◌≡◌, ℕ, true, false, List, map, Some}
use Rattle.crash_site.specs.Calls.{Done}
use Rattle.crash_site.specs.Disk.{Disk, synced, disk_after}
use Rattle.mapfile_save.specs.MapNames.{HasOwnDraft}
use Rattle.mapfile_save.specs.SaveStops.{IsSaved}
use Rattle.rescue_rules.specs.Setting.{Setting}
use Rattle.rescue_rules.specs.Machine.{Machine}
use Rattle.rescue_rules.specs.Step.{Event}
use Rattle.rescue_rules.specs.Moves.{state_after, has_ended}
use Rattle.rescue_rules.specs.Snapshots.{Snapshot, text_of, finished_snapshot}
use Rattle.rescue_rules.specs.RunCalls.{run_calls}
use Rattle.turn_laws.specs.UnderWay.{EndsWellSince}

-- With a mapfile this is saved in it; without one the open output is durable as it read, except where it was lost.
pub record IsLastSaved (s : Setting) (p : Snapshot) (was now : Disk) : Type 0 where
  pub mapfile : s.has_mapfile ≡ true → HasOwnDraft s.names → IsSaved s.names (text_of s.line p) was now
  pub output : s.has_mapfile ≡ false → (image : List ℕ) → was.reads.image ≡ Some image
      → now.shows image ≡ synced (was.reads.files image) (was.shows image)

-- A run from a state, over a disk, is done: no request is left and no limit was met, each position is left well, and
-- after its calls its map was saved, which says that it is finished.
pub record IsWellEnded (s : Setting) (m : Machine) (es : List Event) (was now : Disk) : Type 0 where
  pub over : has_ended s (state_after s m es) ≡ true
  pub well : EndsWellSince s m es
  pub saved : IsLastSaved s (finished_snapshot (state_after s m es)) (disk_after was (map Done (run_calls s m es))) now
