-- What may be found at whatever moment a run is stopped that saves while it goes.
-- For contracts, laws and proofs: no promise uses it.
use Rattle.std.specs.Prelude.{◌≡◌, ⊤, ℕ, ◌+◌, ◌≤◌, true, false, List, [], ◌∷◌, ◌++◌, take, count_by, Option, Some}
use Rattle.block_list.specs.declared.status.Status.{Status}
use Rattle.faulty_source.specs.Journal.{Reading}
use Rattle.crash_site.specs.declared.site.ImageKind.{ImageKind}
use Rattle.crash_site.specs.Files.{File, bytes_of}
use Rattle.crash_site.specs.FileAnswers.{kind_of}
use Rattle.crash_site.specs.Calls.{Call, Entry, Done, Failed}
use Rattle.crash_site.specs.Disk.{Disk, only, disk_after}
use Rattle.crash_site.specs.Left.{Leaves, until}
use Rattle.rescue_rules.specs.Setting.{Setting, IsSensible}
use Rattle.rescue_rules.specs.Machine.{Machine}
use Rattle.rescue_rules.specs.Step.{Event}
use Rattle.rescue_rules.specs.Moves.{IsRun}
use Rattle.rescue_rules.specs.Events.{reads_of}
use Rattle.rescue_rules.specs.Snapshots.{Snapshot, snapshots}
use Rattle.rescue_rules.specs.RunCalls.{run_calls, end_calls}
use Rattle.rescue_rules.specs.Held.{Held}
use Rattle.rescue_rules.specs.Stops.{is_settle, is_write}
use Rattle.rescue_rules.specs.StopsBy.{is_publish, IsSave}
use Rattle.rescue_rules.specs.Preparation.{AreFinishedAlike}
use Rattle.rescue_rules.specs.Laws.{AreThreeNames}
use Rattle.rescue_rules.specs.MachineLaws.{IsInOrder}

-- the record has the first of these calls, and perhaps one more that failed
abbrev pub ComesTo : List Call → List Entry → Type 0
ComesTo calls [] = ⊤
ComesTo [] (e ∷ es) = ⊥
ComesTo (c ∷ cs) (Done x ∷ es) = (x ≡ c) × ComesTo cs es
ComesTo (c ∷ cs) (Failed x steps ∷ es) = (x ≡ c) × (es ≡ [])

-- what a run has to keep: its setting, the mapfile that it begins with and its map, the output's bytes and kind then,
-- its reads, and what it saves
pub record RunPromise : Type 0 where
  pub s : Setting
  pub mapfile : Option File
  pub began : List Status
  pub start : List ℕ
  pub kind : ImageKind
  pub reads : List Reading
  pub saves : List Snapshot

-- The mapfile found is one that the run saved, or the one that it began with: no older than the last save that had
-- returned, and no newer than the last that had begun to be published. The output holds what that mapfile's map
-- promises, is unchanged until a write has begun, and is there, of the kind that it had.
pub record KeepsPromise (a : RunPromise) (returned published written : ℕ) (files : List ℕ → Option File) : Type 0 where
  pub number : ℕ
  pub no_older : returned ≤ number
  pub no_newer : number ≤ published
  pub statuses : List Status
  pub is_save : IsSave a.mapfile a.began a.s.line a.saves number (files a.s.names.map) statuses
  pub held : Held a.s a.reads a.start statuses (bytes_of (files a.s.outfile))
  pub unwritten : written ≡ 0 → bytes_of (files a.s.outfile) ≡ a.start
  pub there : kind_of (files a.s.outfile) false ≡ a.kind

-- The output is open; it and the mapfile are durable as they read.
pub record Rests (s : Setting) (d : Disk) : Type 0 where
  pub image : d.reads.image ≡ Some s.outfile
  pub mapfile : d.shows s.names.map ≡ only (d.reads.files s.names.map)
  pub file : File
  pub reads : d.reads.files s.outfile ≡ Some file
  pub output : d.shows s.outfile ≡ only (Some file)
  pub sound : Leaves d d.reads.files

-- what a run from a state has to keep, over a disk as it reads before it, if its mapfile has this map
abbrev pub promise_of_run : Setting → (began : List Status) → Machine → List Event → Disk → RunPromise
promise_of_run s began m events d = record {
  s = s;
  mapfile = d.reads.files s.names.map;
  began = began;
  start = bytes_of (d.reads.files s.outfile);
  kind = kind_of (d.reads.files s.outfile) false;
  reads = reads_of events;
  saves = snapshots s m events;
}

-- A run with a mapfile over a disk that rests, whose map finishes what its mapfile's does, keeps its promise at
-- whatever moment it is stopped, between or within its calls.
abbrev pub RunStopsSafely : Type 0
RunStopsSafely = (s : Setting) (began : List Status) (m : Machine) (events : List Event) (d : Disk) (calls : List Entry)
    (k : ℕ) (files : List ℕ → Option File) → IsSensible s → s.has_mapfile ≡ true → AreThreeNames s → IsInOrder s m
    → AreFinishedAlike began m.map → IsRun s m events → Rests s d
    → ComesTo (run_calls s m events ++ end_calls s m events) calls
    → Leaves (disk_after d (until k calls)) files
    → KeepsPromise (promise_of_run s began m events d) (count_by is_settle (take k calls))
    (count_by is_publish (take (k + 1) calls)) (count_by is_write (take (k + 1) calls)) files
