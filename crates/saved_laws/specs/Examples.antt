-- A small rescue, computed: its clock goes on by 40 seconds and back, and one save is due.
use Rattle.std.specs.Prelude.{◌≡◌, ◌≢◌, ◌↔◌, ℕ, ◌+◌, ◌<◌, ◌≤◌, List, [], ◌∷◌, ◌++◌, length, take, map, replicate, All, Option, Some, None}
use Rattle.block_list.specs.declared.status.Status.{Status}
use Rattle.block_list.specs.declared.status.Status.TheVariants.{NonTried, BadSector, Finished}
use Rattle.block_list.specs.Map.{Has}
use Rattle.crash_site.specs.declared.site.MapRead.TheVariants.{Absent}
use Rattle.crash_site.specs.Files.{File}
use Rattle.crash_site.specs.Calls.{Call, Entry, Done, image_write, image_sync, map_settle}
use Rattle.mapfile_save.specs.Loading.{load_reads}
use Rattle.mapfile_save.specs.MapNames.{names_of}
use Rattle.rescue_rules.specs.Setting.{Setting}
use Rattle.rescue_rules.specs.Machine.{Machine}
use Rattle.rescue_rules.specs.Beginning.{machine_over}
use Rattle.rescue_rules.specs.Step.{Event, save_interval}
use Rattle.rescue_rules.specs.Moves.{IsRun}
use Rattle.rescue_rules.specs.Events.{began_at, events_of, reads_of, times_of}
use Rattle.rescue_rules.specs.RunCalls.{run_calls, end_calls}
use Rattle.rescue_rules.specs.Snapshots.{snapshots}
use Rattle.rescue_rules.specs.Stops.{LeftBy}
use Rattle.rescue_rules.specs.Work.{Gain, opening_calls, Goes}
use Rattle.rescue_rules.specs.Examples.{small, event_at}
use Rattle.rescue_safety.specs.Saves.{CallsFinished}
use Rattle.rescue_safety.specs.Safe.{Run, by_then}
use Rattle.rescue_safety.specs.Runs.{resting}
use Rattle.saved_laws.specs.Failed.{Marks}
use Rattle.saved_laws.specs.GoesLaws.{GoesSafely, AreOld}

-- an input of ten bytes in sectors of two
abbrev pub five : Setting
five = record (small 10 2 0) { names = names_of (109 ∷ []) }

-- the state in which its rescue begins: nothing was tried
abbrev pub five_start : Machine
five_start = machine_over five (replicate 10 NonTried) None 0

-- a read of a sector, by how many bytes it gave and the times before it and after it
abbrev pub read_at : (pos given before after : ℕ) → Event
read_at pos given before after = record (event_at pos 2 given) { before = before; after = after }

-- a whole read, and one that fails
abbrev pub old_reads : List Event
old_reads = read_at 0 2 0 0 ∷ read_at 2 0 0 5 ∷ []

-- a whole one that ends 40 seconds later
abbrev pub late_read : Event
late_read = read_at 4 2 5 40000

-- the clock goes back: one that fails, and a whole one
abbrev pub last_reads : List Event
last_reads = read_at 6 0 40000 50 ∷ read_at 8 2 50 100 ∷ []

abbrev pub five_reads : List Event
five_reads = old_reads ++ late_read ∷ last_reads

-- They are a run of two saves. In the first one, what the first read gave is finished, what the second asked for in vain
-- is bad, and the last two aren't in it. The second one has the rest.
pub record SavesWhatIsOld : Type 0 where
  pub run : IsRun five five_start five_reads
  pub saves : map (λ p. p.map) (snapshots five five_start five_reads)
      ≡ (Finished ∷ Finished ∷ BadSector ∷ BadSector ∷ Finished ∷ Finished ∷ NonTried ∷ NonTried ∷ NonTried ∷ NonTried ∷ [])
      ∷ (Finished ∷ Finished ∷ BadSector ∷ BadSector ∷ Finished ∷ Finished ∷ BadSector ∷ BadSector ∷ Finished ∷ Finished
      ∷ [])
      ∷ []

-- ---- a stop of it

-- the calls before its first write: it opens the output, and finds no mapfile
abbrev pub opening : List Call
opening = opening_calls five ++ load_reads five.names.map [] (Some Absent)

-- what it does if no call fails
abbrev pub five_gain : Gain
five_gain = record {
  calls = map Done opening ++ map Done (run_calls five five_start five_reads ++ end_calls five five_start five_reads);
  reads = reads_of five_reads;
  times = 0 ∷ times_of five_reads;
}

-- as a run on files of which none was there before
abbrev pub five_run : Run
five_run = record {
  target = record { outfile = five.outfile; mapfile = five.names.map; from = 0; to = 0 };
  past = resting (λ name. None);
  calls = five_gain.calls;
  input = replicate 10 7;
  sector = five.sector;
  reads = five_gain.reads;
}

-- two writes: of the first read, and of the late one
abbrev pub two_writes : List Entry
two_writes = map Done opening ++ Done (image_write 0 (7 ∷ 7 ∷ [])) ∷ Done (image_write 4 (7 ∷ 7 ∷ [])) ∷ []

-- how many calls it makes before the third write
abbrev pub third : ℕ
third = length opening + length (run_calls five five_start (old_reads ++ late_read ∷ []))

-- The rescue is stopped within its third write. Its calls, reads and times are such as `LossIsBounded` and
-- `FailedIsKept` ask for, and each stop finds what they say:
pub record StopFindsWhatIsOld : Type 0 where
  pub goes : Goes five (λ name. None) five_gain
  -- All reads count: the old ones, the late one, and two later.
  pub begun : events_of (by_then five_run third).reads five_gain.times ≡ old_reads ++ ([] ++ late_read ∷ last_reads)
  -- The late one ended 30 seconds or more after the start and after each old one.
  pub late : All (λ t. t + save_interval ≤ late_read.after) (began_at five_gain.times ∷ map (λ e. e.after) old_reads)
  -- A save has returned, which began after two writes. So a read that failed before the second of them counts, and one
  -- after it doesn't.
  pub saving : List Entry
  pub saved : take third five_gain.calls
      ≡ two_writes ++ Done image_sync ∷ (saving ++ Done (map_settle five.names.map) ∷ [])
  pub counted : (by_then five_run (length two_writes)).reads ≡ reads_of (old_reads ++ late_read ∷ [])
  -- The mapfile found has the old reads and the late one, and nothing of the last two.
  pub finds : (files : List ℕ → Option File) → LeftBy five_run.past five_run.calls third files → (status : Status)
      → (x : ℕ) → status ≢ NonTried → Marks (files five.names.map) status x
      ↔ Has (Finished ∷ Finished ∷ BadSector ∷ BadSector ∷ Finished ∷ Finished ∷ NonTried ∷ NonTried ∷ NonTried ∷ NonTried
      ∷ []) status x

-- That stop meets all that `LossIsBoundedIn` asks for. So the mapfile found has the first read finished.
pub record StopKeepsWhatIsOld : Type 0 where
  pub went : GoesSafely five_run.past five five_gain
  pub within : third ≤ length five_gain.calls
  pub old : AreOld five five_gain third old_reads
  pub keeps : (files : List ℕ → Option File) → LeftBy five_run.past five_gain.calls third files → (x : ℕ) → x < 2
      → CallsFinished (files five.names.map) x
