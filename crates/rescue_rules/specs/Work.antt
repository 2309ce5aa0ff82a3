-- What a rescue does on its files, in order, and how far it comes.
use Rattle.std.specs.Prelude.{◌≡◌, ◌⊎◌, ℕ, ◌+◌, ◌*◌, true, false, List, [], ◌∷◌, ◌++◌, length, map, All, Bool, Option, Some, None, if◌then◌else◌}
use Rattle.block_list.specs.declared.status.Status.{Status}
use Rattle.mapfile_text.specs.declared.state.MapState.{MapState}
use Rattle.faulty_source.specs.Journal.{Reading}
use Rattle.crash_site.specs.declared.site.SiteCall.{SiteCall}
use Rattle.crash_site.specs.declared.site.SiteCall.TheVariants.{MapRead}
use Rattle.crash_site.specs.Files.{File}
use Rattle.crash_site.specs.Calls.{Call, Entry, Done, image_open, map_read}
use Rattle.crash_site.specs.CallsMade.{Lost, BrokeAt}
use Rattle.mapfile_save.specs.Loading.{barrier_calls, BeginsLoad, IsLoad}
use Rattle.rescue_rules.specs.declared.stop.Stop.{Stop}
use Rattle.rescue_rules.specs.declared.stop.Stop.TheVariants.{SourceLost, Site, LimitMet, NoMemory}
use Rattle.rescue_rules.specs.declared.stop.RunEnd.{RunEnd}
use Rattle.rescue_rules.specs.declared.stop.RunEnd.TheVariants.{Done as Finished, Stopped, SaveFailed}
use Rattle.rescue_rules.specs.Setting.{Setting}
use Rattle.rescue_rules.specs.Start.{Stands}
use Rattle.rescue_rules.specs.Machine.{Machine}
use Rattle.rescue_rules.specs.Step.{Event, limit_met}
use Rattle.rescue_rules.specs.Moves.{move_of, state_after, has_ended, IsRun}
use Rattle.rescue_rules.specs.Beginning.{machine_over}
use Rattle.rescue_rules.specs.Events.{began_at, events_of}
use Rattle.rescue_rules.specs.RunCalls.{move_calls, run_calls, end_calls}

-- what was done: the calls on the files, the reads, and the readings of the clock
pub record Gain : Type 0 where
  pub calls : List Entry
  pub reads : List Reading
  pub times : List ℕ

-- nothing was done
pub record IsNothing (g : Gain) : Type 0 where
  pub calls : g.calls ≡ []
  pub reads : g.reads ≡ []
  pub times : g.times ≡ []

-- the state that a run begins in, over the map that a mapfile stands for and the state that it shows
abbrev pub begins : Setting → List Status → Option MapState → Gain → Machine
begins s statuses state g = machine_over s statuses state (began_at g.times)

-- the events of what was done
abbrev pub events_in : Gain → List Event
events_in g = events_of g.reads g.times

-- Why a run ended, by the state that it came to: no request is left; or there was one, and the input was lost, or
-- memory ran out; or a limit was met.
abbrev pub EndsBy : Option Stop → Setting → Machine → Type 0
EndsBy None s m = has_ended s m ≡ true
EndsBy (Some SourceLost) s m = (has_ended s m ≡ false) × (limit_met s m ≡ None)
EndsBy (Some (Site call)) s m = ⊥
EndsBy (Some (LimitMet limit)) s m = limit_met s m ≡ Some limit
EndsBy (Some NoMemory) s m = (has_ended s m ≡ false) × (limit_met s m ≡ None)

-- how many reads were lost of a run that stopped so, or that didn't
abbrev pub lost_by : Option Stop → ℕ
lost_by None = 0
lost_by (Some SourceLost) = 1
lost_by (Some (Site call)) = 0
lost_by (Some (LimitMet limit)) = 0
lost_by (Some NoMemory) = 0

-- how many reads were lost of a run that ended so
abbrev pub lost_reads : RunEnd → ℕ
lost_reads Finished = 0
lost_reads (Stopped stop) = lost_by (Some stop)
lost_reads (SaveFailed call earlier) = lost_by earlier

-- how a run ends whose last calls returned
abbrev pub end_of : Option Stop → RunEnd
end_of None = Finished
end_of (Some stop) = Stopped stop

-- The calls of a run whose reads make these events, by how it ended.
pub data Ends (s : Setting) (m : Machine) (events : List Event) (calls : List Entry) (end : RunEnd) : Type 0 where
  -- the run ended, and its last calls returned
  IsSaved : (stop : Option Stop) → EndsBy stop s (state_after s m events) → end ≡ end_of stop
      → calls ≡ map Done (run_calls s m events ++ end_calls s m events) → Ends s m events calls end
  -- the run ended, and one of its last calls failed
  IsUnsaved : (stop : Option Stop) (call : SiteCall) → EndsBy stop s (state_after s m events)
      → end ≡ SaveFailed call stop → BrokeAt call (end_calls s m events) (map Done (run_calls s m events)) calls
      → Ends s m events calls end
  -- a call for the last read failed: its write, or one of the save that was due after it
  IsBroken : (before : List Event) (last : Event) (call : SiteCall) → events ≡ before ++ last ∷ []
      → end ≡ Stopped (Site call)
      → BrokeAt call (move_calls s (move_of s (state_after s m before) last)) (map Done (run_calls s m before)) calls
      → Ends s m events calls end

-- A run over a map: the clock is read once at its start, before and after each read that was answered, and before one
-- that was lost. Each read asks for the request of the state that those before it led to.
pub record Runs (s : Setting) (statuses : List Status) (state : Option MapState) (g : Gain) (end : RunEnd)
    : Type 0 where
  pub times : length g.times ≡ 1 + 2 * length g.reads + lost_reads end
  pub run : IsRun s (begins s statuses state g) (events_in g)
  pub ends : Ends s (begins s statuses state g) (events_in g) g.calls end

-- the calls before a mapfile is read: the output is opened, and with a mapfile the barrier makes durable what exists
abbrev pub opening_calls : Setting → List Call
opening_calls s = image_open s.outfile true ∷ (if s.has_mapfile then barrier_calls s.names else [])

-- the mapfile among files, if there is one
abbrev pub mapfile_in : Setting → (List ℕ → Option File) → Option File
mapfile_in s files = if s.has_mapfile then files s.names.map else None

-- all reads of the mapfile, and none without one
pub record IsLoadOf (s : Setting) (files : List ℕ → Option File) (load : List Call) : Type 0 where
  pub all : s.has_mapfile ≡ true → IsLoad s.names.map (files s.names.map) load
  pub none : s.has_mapfile ≡ false → load ≡ []

-- How far a rescue came over files as they read before it, by what it did after the reads of other maps.
pub data GoesOn (s : Setting) (files : List ℕ → Option File) (g : Gain) : Type 0 where
  -- some of the opening's calls returned, and perhaps one more failed
  InOpening : (front : List Call) (back : List Call) → front ++ back ≡ opening_calls s → g.reads ≡ []
      → (g.calls ≡ map Done front)
      ⊎ ((call : Call) × (rest : List Call) × (back ≡ call ∷ rest) × Lost call (map Done front) g.calls)
      → GoesOn s files g
  -- the mapfile was being read, or was read and no run begun
  InLoad : (load : List Call) → s.has_mapfile ≡ true → BeginsLoad s.names.map (files s.names.map) load → g.reads ≡ []
      → (g.calls ≡ map Done (opening_calls s ++ load)) ⊎ BrokeAt MapRead (opening_calls s ++ load) [] g.calls
      → GoesOn s files g
  -- a run over the map that the mapfile stands for, or no mapfile, had begun
  InRun : (load : List Call) (statuses : List Status) (state : Option MapState) (end : RunEnd) (rest : List Entry)
      → IsLoadOf s files load → Stands (mapfile_in s files) s.end statuses state
      → g.calls ≡ map Done (opening_calls s ++ load) ++ rest → Runs s statuses state (record g { calls = rest }) end
      → GoesOn s files g

-- a call that reads a mapfile
abbrev pub is_map_read : Call → Bool
is_map_read (map_read name at size answer) = true
is_map_read call = false

-- these calls read mapfiles alone
abbrev pub AreMapReads : List Call → Type 0
AreMapReads calls = All (λ c. is_map_read c ≡ true) calls

-- How far a rescue came over files as they read before it, by what it did. Before it opens its output it may read maps
-- that say what is to be rescued.
pub data Goes (s : Setting) (files : List ℕ → Option File) (g : Gain) : Type 0 where
  -- a read of such a map failed
  InMaps : (maps : List Call) → AreMapReads maps → g.reads ≡ [] → BrokeAt MapRead maps [] g.calls → Goes s files g
  -- all reads of such maps returned, and the rescue went on
  AfterMaps : (maps : List Call) (rest : List Entry) → AreMapReads maps → g.calls ≡ map Done maps ++ rest
      → GoesOn s files (record g { calls = rest }) → Goes s files g
