-- What the definitions mean.
use Rattle.ddrescue_words.specs.declared.options.Options.{Options}
use Rattle.std.specs.Prelude.{◌≡◌, ◌≢◌, ℕ, ◌-◌, ◌^◌, ◌<◌, Bool, true, IsTrue, List, length, slice_get, Option, Some, ◌⊎◌}
use Rattle.run_options.specs.Limits.{no_limits}
use Rattle.block_list.specs.declared.status.Status.{Status}
use Rattle.mapfile_text.specs.declared.state.MapState.{MapState}
use Rattle.crash_site.specs.declared.site.SiteCall.{SiteCall}
use Rattle.crash_site.specs.Files.{bytes_of}
use Rattle.crash_site.specs.SiteState.{files_in}
use Rattle.rescue_rules.specs.declared.stop.Stop.{Stop}
use Rattle.rescue_rules.specs.Setting.{Setting}
use Rattle.rescue_rules.specs.Start.{Stands}
use Rattle.rescue_rules.specs.Machine.{Machine}
use Rattle.rescue_rules.specs.Moves.{state_after, has_ended, IsRun}
use Rattle.rescue_rules.specs.Given.{given}
use Rattle.run_laws.specs.Endings.{EndsWell}
use Rattle.rescue_rules.specs.Held.{Held}
use Rattle.rescue_rules.specs.Snapshots.{text_of, finished_snapshot}
use Rattle.rescue_rules.specs.Work.{Gain, begins, events_in, mapfile_in}
use Rattle.rescue_rules.specs.Stops.{has_barrier}
use Rattle.rescue_rules.specs.StopsBy.{IsKept}
use Rattle.program_promise.specs.Work.{Deeds, Works}
use Rattle.program_promise.specs.Verdicts.{RefuseNothing}
use Rattle.ddrescue_words.specs.Command.{Command, Rescue, Sample}
use Rattle.ddrescue_words.specs.Asking.{Asks, AskSample}
use Rattle.rescue_rules.specs.declared.stop.Limit.{Limit}
use Rattle.task_files.specs.declared.ending.Ending.{Ending}
use Rattle.task_files.specs.declared.ending.Ending.TheVariants.{Done, SourceFault, SourceLost, SiteFault, LimitMet, NoMemory}
use Rattle.task_files.specs.Asked.{Maps}
use Rattle.task_files.specs.Maps.{Found, AreMapsIn}
use Rattle.task_files.specs.Findings.{Findings}
use Rattle.ddrescue_cli.specs.Told.{Told, calls_before}
use Rattle.ddrescue_cli.specs.Tasks.{with_did}
use Rattle.ddrescue_cli.specs.ToldParts.{files_of, asked_of}
use Rattle.task_files.specs.Work.{Rescues, rescue_faults, rescue_rows}
use Rattle.task_files.specs.Answers.{IsRescueCall}
use Rattle.ddrescue_laws.specs.InputRead.{HasRead}
use Rattle.ddrescue_laws.specs.LeftAfter.{names_maps, IsLeft}
use Rattle.ddrescue_cli.specs.Ddrescue.{Ddrescue}

-- what was outside, as a promise says it
abbrev pub outside_by : {t : Told} {c : Command} → Ddrescue t → Asks t.words c → Findings
outside_by {t} {c} d asks =
    with_did (d.does.asked_for (Rescue c) asks).outside (d.does.asked_for (Rescue c) asks).did

-- what was asked for, by what was outside
abbrev pub setting_promised : {t : Told} {c : Command} → Ddrescue t → Asks t.words c → Setting
setting_promised {t} {c} d asks = asked_of c t (outside_by d asks)

-- what was done, as a promise says it
abbrev pub done_by : {t : Told} {c : Command} → Ddrescue t → Asks t.words c → Gain
done_by {t} {c} d asks = (outside_by d asks).did.gain

-- If the files tell, what an answer before the first read leaves of them is known by the answer.
abbrev pub FilesAreLeft : Type 0
FilesAreLeft = (t : Told) (c : Command) (d : Ddrescue t) → Asks t.words c → IsTrue t.before.site.tells
    → IsLeft t.answer (names_maps c) c.outfile (files_of t) (files_in t.after.site)

-- If the input tells, whatever the files do: what was read is a run, which asks few times and ends well.
abbrev pub ReadsAreARun : Type 0
ReadsAreARun = (t : Told) (c : Command) (d : Ddrescue t) (asks : Asks t.words c) → IsTrue t.before.source.tells
    → HasRead (setting_promised d asks) (outside_by d asks).maps.test t.answer t.before.source t.after.source

-- An answer of a rescue that names a failed call names one that a step makes.
abbrev pub FaultsAreOfSteps : Type 0
FaultsAreOfSteps = (t : Told) (c : Command) (d : Ddrescue t) (call : SiteCall) (earlier : Option Stop)
    → Asks t.words c → t.answer ≡ SiteFault call earlier → IsRescueCall call

-- After each answer that follows the barrier, the files as they read keep the promise.
abbrev pub HoldsAtEnd : Type 0
HoldsAtEnd =
    (t : Told) (c : Command) (began : List Status) (state : Option MapState) (d : Ddrescue t) (asks : Asks t.words c)
    → IsTrue t.before.site.tells → (setting_promised d asks).has_mapfile ≡ true
    → has_barrier (done_by d asks).calls ≡ true
    → Stands (files_of t (setting_promised d asks).names.map) (setting_promised d asks).end began state
    → IsKept (calls_before t) (setting_promised d asks) (done_by d asks)
    (bytes_of (files_of t (setting_promised d asks).outfile)) began state (length (done_by d asks).calls)
    (files_in t.after.site)

-- the state that a rescue came to over a map, and the state that its mapfile showed
abbrev pub machine_reached : Setting → Gain → List Status → Option MapState → Machine
machine_reached s g statuses state = state_after s (begins s statuses state g) (events_in g)

-- What a rescue leaves that went on to its end, over the map of its mapfile, or without one:
pub record LeavesRescued (t : Told) (s : Setting) (g : Gain) : Type 0 where
  pub statuses : List Status
  pub state : Option MapState
  pub stands : Stands (mapfile_in s (files_of t)) s.end statuses state
  -- the reads are a run that left no request in any pass
  pub run : IsRun s (begins s statuses state g) (events_in g)
  pub over : has_ended s (machine_reached s g statuses state) ≡ true
  -- each position of the domain is left well:
  -- rescued, or not to be tried further, or tried in vain as often as was asked
  pub well : EndsWell s (begins s statuses state g) (events_in g)
  -- the mapfile, if there is one, is the map of all reads, and says that it is finished
  pub mapfile : s.has_mapfile ≡ true → files_in t.after.site s.names.map
      ≡ Some (record {
        bytes = text_of s.line (finished_snapshot (machine_reached s g statuses state));
        regular = true;
      })
  -- the output holds what the map of all reads promises
  pub held : Held s g.reads (bytes_of (files_of t s.outfile)) (machine_reached s g statuses state).map
      (bytes_of (files_in t.after.site s.outfile))

-- If the files tell, a rescue that is done leaves what `LeavesRescued` says.
abbrev pub DoneIsSaved : Type 0
DoneIsSaved = (t : Told) (c : Command) (d : Ddrescue t) (asks : Asks t.words c) → IsTrue t.before.site.tells
    → t.answer ≡ Done → LeavesRescued t (setting_promised d asks) (done_by d asks)

-- What the reads gave is the input's own, if the input tells. So what a saved map calls finished, and the reads gave,
-- is in the output as it is in the input.
abbrev pub GivenIsInput : Type 0
GivenIsInput = (t : Told) (c : Command) (x b : ℕ) (d : Ddrescue t) (asks : Asks t.words c)
    → IsTrue t.before.source.tells
    → given c.options.sector (done_by d asks).reads x ≡ Some b → slice_get t.before.source.bytes x ≡ Some b

-- no open of the input failed, no read was lost, and no call on the files failed; and the counts say so
pub record NothingFailed (t : Told) : Type 0 where
  pub opens : t.after.source.faults ≡ t.before.source.faults
  pub reads : t.after.source.losses ≡ t.before.source.losses
  pub calls : t.after.site.faults ≡ t.before.site.faults
  pub opens_count : t.before.source.faults < 2 ^ 64 - 1
  pub reads_count : t.before.source.losses < 2 ^ 64 - 1
  pub calls_count : t.before.site.faults < 2 ^ 64 - 1

-- no row of the work refuses anything: the names of the files are apart, the maps that options name and the mapfile are
-- maps, the output may be written to, and each position has a place in it
abbrev pub NothingIsRefused : Command → Findings → Type 0
NothingIsRefused c o = RefuseNothing (rescue_rows c o.found o.end)

-- a rescue is done, or it met a limit, if one was set
pub record IsDoneOrLimited (o : Options) (e : Ending) : Type 0 where
  pub ends : (e ≡ Done) ⊎ ((limit : Limit) × (e ≡ LimitMet limit))
  pub unlimited : o.limits ≡ no_limits → e ≡ Done

-- If nothing failed, nothing is refused and memory doesn't run out, a rescue is done or met a limit, whoever tells.
abbrev pub IsDoneUnless : Type 0
IsDoneUnless = (t : Told) (c : Command) (d : Ddrescue t) (asks : Asks t.words c) → NothingFailed t
    → NothingIsRefused c (outside_by d asks) → t.answer ≢ NoMemory → IsDoneOrLimited c.options t.answer

-- For any files that were found there are the maps of a command: those that the files say.
abbrev pub MapsAreThere : Type 0
MapsAreThere = (c : Command) (found : Found) → (maps : Maps) × AreMapsIn c found maps

-- Two calls for samples of one size say the same line, whatever else there is.
abbrev pub SampleIsOneLine : Type 0
SampleIsOneLine = (t t' : Told) (kib : ℕ) (quiet quiet' : Bool) (d : Ddrescue t) (d' : Ddrescue t')
    (asks : AskSample t.words kib quiet) (asks' : AskSample t'.words kib quiet') → t.answer ≡ Done → t'.answer ≡ Done
    → (d.does.asked_for (Sample kib quiet) asks).outside.lines
    ≡ (d'.does.asked_for (Sample kib quiet') asks').outside.lines

-- an answer that follows from a command, an input's length and the files found, whatever the calls and memory do
pub record IsVerdict (e : Ending) : Type 0 where
  pub opened : e ≢ SourceFault
  pub kept : e ≢ SourceLost
  pub within : (limit : Limit) → e ≢ LimitMet limit
  pub room : e ≢ NoMemory
  pub call : (call : SiteCall) (earlier : Option Stop) → e ≢ SiteFault call earlier

-- At most one answer that is a verdict follows from a command, a setting and the files found.
abbrev pub HasOneVerdict : Type 0
HasOneVerdict = (c : Command) (s : Setting) (found : Found) (lines lines' : List (List ℕ)) (e e' : Ending)
    (d d' : Deeds) → Works rescue_faults (rescue_rows c found s.end) (Rescues s found.mapfile lines) e d
    → Works rescue_faults (rescue_rows c found s.end) (Rescues s found.mapfile lines') e' d'
    → IsVerdict e → IsVerdict e' → e ≡ e'
