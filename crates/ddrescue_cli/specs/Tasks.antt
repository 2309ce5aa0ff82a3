-- The work of each task: what was outside of it, its steps, its run, and what is found of it after a stop.
use Rattle.std.specs.Prelude.{◌≡◌, ⊤, true, ℕ, IsTrue, List, []}
use Rattle.crash_site.specs.Files.{bytes_of}
use Rattle.crash_site.specs.SiteState.{SiteState}
use Rattle.rescue_rules.specs.declared.stop.RunEnd.{RunEnd}
use Rattle.rescue_rules.specs.Setting.{Setting}
use Rattle.rescue_rules.specs.StopsBy.{RescueStopsBy}
use Rattle.sweep_rules.specs.Sweep.{Swept, generator}
use Rattle.sweep_rules.specs.SweepLaws.{AreGiven}
use Rattle.program_promise.specs.Work.{Deeds, WorkStep}
use Rattle.program_promise.specs.Parts.{only_calls}
use Rattle.ddrescue_words.specs.Command.{Command, Task, Rescue, Fill, Generate, Sample}
use Rattle.program_promise.specs.World.{WorldState}
use Rattle.task_files.specs.declared.ending.Ending.{Ending}
use Rattle.task_files.specs.declared.ending.Ending.TheVariants.{NoMemory}
use Rattle.task_files.specs.Asked.{Maps, setting_of}
use Rattle.task_files.specs.Maps.{Found, AreAskedFor, AreMapsIn}
use Rattle.task_files.specs.Findings.{Findings, Agrees}
use Rattle.task_files.specs.Work.{Rescues, rescue_rows}
use Rattle.task_rescue.specs.Sampled.{Samples, sample_rows}
use Rattle.task_sweeps.specs.Modes.{AreMapsOfSweep, IsMapEnd, FillStops, GenerateStops, ThenFill, ThenSweep, fill_rows, fill_setting, generate_rows}
use Rattle.ddrescue_cli.specs.Told.{calls_of}
use Rattle.ddrescue_cli.specs.ToldParts.{across}

-- What was outside of a task: the files that its steps found, the input's length, what the maps say, how far the map
-- reaches that the mapfile stands for, and the lines that it says. Of a filling also the buffer that its pattern fills,
-- and of both sweeps their pieces and how they ended.
pub record TaskOutside : Type 0 where
  pub found : Found
  pub end : ℕ
  pub maps : Maps
  pub top : ℕ
  pub lines : List (List ℕ)
  pub buffer : List ℕ
  pub pieces : List Swept
  pub swept : RunEnd

-- what was outside of a task, with what was done there
abbrev pub with_did : TaskOutside → Deeds → Findings
with_did o did = record { found = o.found; end = o.end; maps = o.maps; did = did; lines = o.lines }

-- what a command asks for, by what was outside
abbrev pub asked_by : Command → (line : List ℕ) → TaskOutside → Setting
asked_by c line o = setting_of c line o.end o.maps

-- what a filling is asked for, by what was outside
abbrev pub filling_by : Command → (line : List ℕ) → TaskOutside → Setting
filling_by c line o = fill_setting c line o.top o.maps

-- the steps of a task, row by row
abbrev pub task_rows : Task → TaskOutside → List (WorkStep Ending)
task_rows (Rescue c) o = rescue_rows c o.found o.end
task_rows (Fill types c) o = fill_rows c o.found o.end
task_rows (Generate c) o = generate_rows c o.found o.end
task_rows (Sample kib quiet) o = sample_rows

-- what a task runs after its steps
abbrev pub TaskRuns : Task → (line : List ℕ) → TaskOutside → Ending → Deeds → Type 0
TaskRuns (Rescue c) line o = Rescues (asked_by c line o) o.found.mapfile o.lines
TaskRuns (Fill types c) line o =
    ThenFill types c o.found o.end o.top (filling_by c line o) o.buffer o.pieces o.swept o.lines
TaskRuns (Generate c) line o =
    let s = asked_by c line o in ThenSweep s (generator s) o.found.mapfile o.pieces o.swept o.lines
TaskRuns (Sample kib quiet) line o = Samples kib o.lines

-- Files agree with all that they tell, with maps if the words ask for them, which are what the files are.
pub record AgreesOver (c : Command) (AreMaps : Found → Maps → Type 0) (o : TaskOutside) (did : Deeds)
    (old new : WorldState) : Type 0 where
  pub agrees : Agrees c (across old new) o.found o.end o.maps did
  pub asked_maps : AreAskedFor c o.maps
  pub are_maps : AreMaps o.found o.maps
  pub tops : IsMapEnd o.found.mapfile o.top

-- A sample touches nothing that was handed in but the console.
abbrev pub TaskAgrees : Task → TaskOutside → Deeds → (old new : WorldState) → Type 0
TaskAgrees (Rescue c) o did old new = AgreesOver c (AreMapsIn c) o did old new
TaskAgrees (Fill types c) o did old new = AgreesOver c (AreMapsOfSweep c) o did old new
TaskAgrees (Generate c) o did old new = AgreesOver c (AreMapsOfSweep c) o did old new
TaskAgrees (Sample kib quiet) o did old new = (did ≡ only_calls []) × (new ≡ old)

-- Before its first reading of the clock a task over files says no line and does no piece; and a sample for which there
-- is no memory says none.
abbrev pub TaskIsSilent : Task → TaskOutside → Ending → Deeds → Type 0
TaskIsSilent (Rescue c) o e did = did.gain.times ≡ [] → (o.lines ≡ []) × (o.pieces ≡ [])
TaskIsSilent (Fill types c) o e did = did.gain.times ≡ [] → (o.lines ≡ []) × (o.pieces ≡ [])
TaskIsSilent (Generate c) o e did = did.gain.times ≡ [] → (o.lines ≡ []) × (o.pieces ≡ [])
TaskIsSilent (Sample kib quiet) o e did = e ≡ NoMemory → o.lines ≡ []

-- What is found at whatever moment a task is stopped. Of a rescue with a mapfile: until the barrier has returned, what
-- could be found before. From then on the mapfile is the one it began with or one that it saved, no older than the last
-- save that had returned, and the output holds what that mapfile promises.
--
-- Of a filling, from the barrier on: the mapfile is the one it began with or one that it saved. Its map is kept, and
-- what came before that save is filled.
--
-- Of a generating: each piece gave what the output held when the call began. From the barrier on, what the mapfile
-- calls finished was so when it began, or has a byte in the output, whose old bytes stay.
abbrev pub TaskStops : Task → (line : List ℕ) → TaskOutside → Deeds → SiteState → Type 0
TaskStops (Rescue c) line o did site =
    (asked_by c line o).has_mapfile ≡ true → RescueStopsBy (calls_of site) (asked_by c line o) did.gain
TaskStops (Fill types c) line o did site =
    FillStops (calls_of site) (filling_by c line o) types o.buffer o.pieces o.swept did.gain
TaskStops (Generate c) line o did site =
    AreGiven (asked_by c line o) (bytes_of o.found.output) o.pieces
    × GenerateStops (calls_of site) (asked_by c line o) o.pieces o.swept did.gain
TaskStops (Sample kib quiet) line o did site = ⊤

-- what a task leaves, if the files tell
pub record LeavesAs (task : Task) (line : List ℕ) (o : TaskOutside) (e : Ending) (did : Deeds) (old new : WorldState)
    : Type 0 where
  pub silent : TaskIsSilent task o e did
  pub stops : IsTrue old.site.tells → TaskStops task line o did old.site
