-- What a stop leaves of a run that is safe, whatever comes next.
use Rattle.std.specs.Prelude.{◌≡◌, ℕ, true, List, ◌++◌, Option, Some}
use Rattle.block_list.specs.declared.status.Status.{Status}
use Rattle.mapfile_text.specs.declared.state.MapState.{MapState}
use Rattle.faulty_source.specs.Journal.{Reading}
use Rattle.crash_site.specs.Files.{File, bytes_of}
use Rattle.crash_site.specs.Calls.{Entry}
use Rattle.crash_site.specs.Disk.{Disk, disk_after}
use Rattle.crash_site.specs.Left.{Leaves, until}
use Rattle.rescue_rules.specs.Setting.{Setting}
use Rattle.rescue_rules.specs.Start.{Stands}
use Rattle.rescue_rules.specs.Held.{Held}
use Rattle.rescue_rules.specs.Machine.{Machine}
use Rattle.rescue_rules.specs.Step.{Event}
use Rattle.rescue_rules.specs.Moves.{state_after, IsRun}
use Rattle.rescue_rules.specs.Events.{reads_of}
use Rattle.rescue_rules.specs.Snapshots.{Snapshot, text_of}
use Rattle.rescue_rules.specs.RunCalls.{run_calls, closing_calls}
use Rattle.rescue_rules.specs.RunStops.{ComesTo}

-- a mapfile has a map: it stands for it, or a run saved it
pub data HasMap (s : Setting) (mapfile : Option File) (map : List Status) : Type 0 where
  Read : (state : Option MapState) → Stands mapfile s.end map state → HasMap s mapfile map
  Saved : (p : Snapshot) → map ≡ p.map → mapfile ≡ Some (record { bytes = text_of s.line p; regular = true })
      → HasMap s mapfile map

-- The output found holds what the map of the mapfile found promises, by the output's bytes at the start and the reads
-- since.
pub record IsHeldIn (s : Setting) (start : List ℕ) (reads : List Reading) (files : List ℕ → Option File)
    : Type 0 where
  pub map : List Status
  pub has : HasMap s (files s.names.map) map
  pub held : Held s reads start map (bytes_of (files s.outfile))

-- However a run continues from a state over a disk, whatever its last save shows of the map that it has come to, and at
-- whatever moment it is stopped then: what is found is held.
pub record IsSafe (s : Setting) (start : List ℕ) (reads : List Reading) (m : Machine) (d : Disk) : Type 0 where
  pub each : (es : List Event) (last : Snapshot) (calls : List Entry) (k : ℕ) (files : List ℕ → Option File)
      → IsRun s m es → last.map ≡ (state_after s m es).map → ComesTo (run_calls s m es ++ closing_calls s last) calls
      → Leaves (disk_after d (until k calls)) files → IsHeldIn s start (reads ++ reads_of es) files
