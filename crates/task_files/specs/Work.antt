-- The work of a rescue: its steps in order, each a row, and the run after them.
use Rattle.std.specs.Prelude.{◌≡◌, ◌⊎◌, ℕ, Bool, true, false, List, [], ◌∷◌, ◌++◌, length, Option, Some, None, is_some}
use Rattle.block_list.specs.declared.status.Status.{Status}
use Rattle.mapfile_text.specs.declared.read.Mode.{Mode}
use Rattle.mapfile_text.specs.declared.state.MapState.{MapState}
use Rattle.crash_site.specs.Files.{File}
use Rattle.crash_site.specs.Calls.{Call, image_open}
use Rattle.mapfile_save.specs.MapNames.{names_of}
use Rattle.mapfile_resume.specs.Named.{map_mode}
use Rattle.mapfile_save.specs.Loading.{barrier_calls}
use Rattle.rescue_rules.specs.Setting.{Setting}
use Rattle.rescue_rules.specs.Start.{Stands}
use Rattle.rescue_rules.specs.declared.stop.Stop.TheVariants.{SourceLost as InputLost, Site, LimitMet as Limited, NoMemory as NoRoom}
use Rattle.rescue_rules.specs.declared.stop.RunEnd.{RunEnd}
use Rattle.rescue_rules.specs.declared.stop.RunEnd.TheVariants.{Done as Finished, Stopped, SaveFailed}
use Rattle.rescue_rules.specs.Lines.{opening_lines, lines_of}
use Rattle.rescue_rules.specs.Work.{Gain, Runs, begins, events_in}
use Rattle.program_promise.specs.Work.{Deeds, Faults, WorkStep, Take, Look, Open, Make, Read}
use Rattle.ddrescue_words.specs.Command.{Command}
use Rattle.task_files.specs.declared.ending.Ending.{Ending}
use Rattle.task_files.specs.declared.ending.Ending.TheVariants.{Done, SourceFault, SourceLost, SiteFault, LimitMet, NoMemory}
use Rattle.task_files.specs.declared.ending.Which.{Which}
use Rattle.task_files.specs.declared.ending.Which.TheVariants.{DomainMap, TestMap}
use Rattle.task_files.specs.Refusals.{NamesRefused, NamedMapRefused, OutputMissing, OutputRefused, MapfileRefused, PlacesRefused}
use Rattle.task_files.specs.Maps.{Found}

-- how a rescue answers faults
abbrev pub rescue_faults : Faults Ending
rescue_faults = record { call = λ call. SiteFault call None; memory = NoMemory; input = SourceFault }

-- a refusal of what a name stands for, if there is one
abbrev pub IfNamed : Option (List ℕ) → (Ending → Type 0) → Ending → Type 0
IfNamed name refuses e = (is_some name ≡ true) × refuses e

-- A map that an option names, if one does, is read, and may be absent or refused.
abbrev pub map_rows : Which → Mode → (name : Option (List ℕ)) → (file : Option File) → List (WorkStep Ending)
map_rows which mode name file = Read name file ∷ Look (IfNamed name (NamedMapRefused which mode file)) ∷ []

-- An output that is absent is made, or it is refused.
abbrev pub missing_rows : (makes : Bool) → (file : Option File) → List (WorkStep Ending)
missing_rows true file = []
missing_rows false file = Look (OutputMissing file) ∷ []

-- The output is opened, and may be refused.
abbrev pub output_rows : (makes forced : Bool) → (outfile : List ℕ) → (file : Option File) → List (WorkStep Ending)
output_rows makes forced outfile file =
    Make (image_open outfile makes ∷ []) ∷ (missing_rows makes file ++ Look (OutputRefused forced file) ∷ [])

-- the barrier before a mapfile is read, if there is one
abbrev pub barrier_of : (mapfile : Option (List ℕ)) → List Call
barrier_of None = []
barrier_of (Some name) = barrier_calls (names_of name)

-- With a mapfile the barrier makes durable what is there, and the mapfile is read, and may be refused.
abbrev pub load_rows : (mapfile : Option (List ℕ)) → (file : Option File) → List (WorkStep Ending)
load_rows mapfile file = Make (barrier_of mapfile) ∷ Read mapfile file ∷ Look (MapfileRefused file) ∷ []

-- what follows the input: the output is opened and the mapfile loaded, and each position that is asked for below a
-- limit wants a place in the output
abbrev pub files_rows : (makes : Bool) → Command → Found → (limit : ℕ) → List (WorkStep Ending)
files_rows makes c found limit =
    output_rows makes c.options.forced c.outfile found.output ++ load_rows c.mapfile found.mapfile
    ++ Look (PlacesRefused c.options limit) ∷ []

-- what follows the maps that options name: the input is opened, and then the files
abbrev pub opened_rows : Command → Found → (end : ℕ) → List (WorkStep Ending)
opened_rows c found end = Open c.infile ∷ files_rows true c found end

-- what follows the names
abbrev pub worked_rows : Command → Found → (end : ℕ) → List (WorkStep Ending)
worked_rows c found end =
    map_rows DomainMap (map_mode c.options.loose) c.domain_map found.domain
    ++ map_rows TestMap (map_mode c.options.loose) c.test_map found.test ++ opened_rows c found end

-- The steps of a rescue before its run.
abbrev pub rescue_rows : Command → Found → (end : ℕ) → List (WorkStep Ending)
rescue_rows c found end = Take ∷ Look (NamesRefused c) ∷ worked_rows c found end

-- the answer of a run that ended so
abbrev pub answer_of : RunEnd → Ending
answer_of Finished = Done
answer_of (Stopped InputLost) = SourceLost
answer_of (Stopped (Site call)) = SiteFault call None
answer_of (Stopped (Limited limit)) = LimitMet limit
answer_of (Stopped NoRoom) = NoMemory
answer_of (SaveFailed call earlier) = SiteFault call earlier

-- all that a run puts: how much is asked for, if more lines are wanted, and its own lines
abbrev pub said_by : Setting → List Status → Option MapState → Gain → RunEnd → List (List ℕ)
said_by s statuses state g end =
    opening_lines s (length statuses) ++ lines_of s (begins s statuses state g) (events_in g) end

-- memory ran out before a run began: it read no clock and said nothing
pub record IsUnbegun (e : Ending) (g : Gain) (lines : List (List ℕ)) : Type 0 where
  pub answer : e ≡ NoMemory
  pub calls : g.calls ≡ []
  pub reads : g.reads ≡ []
  pub times : g.times ≡ []
  pub silent : lines ≡ []

-- a run over a map and what it said, by how it ended
pub record Ran (s : Setting) (statuses : List Status) (state : Option MapState) (lines : List (List ℕ)) (e : Ending)
    (g : Gain) : Type 0 where
  pub end : RunEnd
  pub answer : e ≡ answer_of end
  pub runs : Runs s statuses state g end
  pub says : lines ≡ said_by s statuses state g end

-- a run over a map, which may not have begun
abbrev pub RunsOver : Setting → List Status → Option MapState → (lines : List (List ℕ)) → Ending → Gain → Type 0
RunsOver s statuses state lines e g = IsUnbegun e g lines ⊎ Ran s statuses state lines e g

-- the run over the map that the mapfile stands for, or no mapfile
abbrev pub ThenRun : Setting → (mapfile : Option File) → (lines : List (List ℕ)) → Ending → Gain → Type 0
ThenRun s mapfile lines e g =
    (statuses : List Status) × (state : Option MapState) × Stands mapfile s.end statuses state
    × RunsOver s statuses state lines e g

-- The run over the map that the mapfile stands for comes after the steps, and opens no input.
abbrev pub Rescues : Setting → (mapfile : Option File) → (lines : List (List ℕ)) → Ending → Deeds → Type 0
Rescues s mapfile lines e d = (d.opens ≡ []) × ThenRun s mapfile lines e d.gain
