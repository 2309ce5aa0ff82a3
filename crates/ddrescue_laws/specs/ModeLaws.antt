-- What the definitions of fill mode and generate mode mean.
use Rattle.std.specs.Prelude.{◌≡◌, ◌≢◌, ◌⊎◌, ℕ, ◌+◌, ◌≤◌, ◌<◌, true, IsTrue, List, [], length, slice_get, take, All, Option, Some}
use Rattle.block_list.specs.declared.status.Status.{Status}
use Rattle.block_list.specs.declared.status.Status.TheVariants.{Finished}
use Rattle.block_list.specs.declared.types.TypeSet.{TypeSet}
use Rattle.block_list.specs.Map.{Has}
use Rattle.mapfile_text.specs.declared.state.MapState.{MapState}
use Rattle.crash_site.specs.declared.site.SiteCall.{SiteCall}
use Rattle.crash_site.specs.Files.{bytes_of}
use Rattle.crash_site.specs.SiteState.{files_in}
use Rattle.option_words.specs.Words.{command_line}
use Rattle.rescue_rules.specs.declared.stop.RunEnd.{RunEnd}
use Rattle.rescue_rules.specs.declared.stop.Stop.{Stop}
use Rattle.rescue_rules.specs.Setting.{Setting, place}
use Rattle.rescue_rules.specs.Start.{Stands}
use Rattle.rescue_rules.specs.Snapshots.{text_of}
use Rattle.sweep_rules.specs.Sweep.{Sweeper, Swept, filler, generator, sweep_over, after_pieces, sweep_end, IsSweep, IsSweptOut}
use Rattle.sweep_rules.specs.SweepLaws.{AreGiven}
use Rattle.sweep_rules.specs.SweepStops.{AreFilled}
use Rattle.program_promise.specs.Work.{Deeds}
use Rattle.program_promise.specs.Verdicts.{RefuseNothing}
use Rattle.ddrescue_words.specs.Command.{Command, Fill, Generate}
use Rattle.ddrescue_words.specs.Asking.{AskTask}
use Rattle.task_files.specs.declared.ending.Ending.{Ending}
use Rattle.task_files.specs.declared.ending.Ending.TheVariants.{Done, PatternUnread, SiteFault, NoMemory}
use Rattle.task_files.specs.Names.{program_name}
use Rattle.task_files.specs.Maps.{Found}
use Rattle.task_files.specs.Answers.{IsGenerateCall, IsRescueCall}
use Rattle.ddrescue_laws.specs.InputRead.{IsOfOpening}
use Rattle.ddrescue_laws.specs.LeftAfter.{AllStand, OutputMade, DraftMade, OutputAndDraftMade, draft_asked, has_unsettled}
use Rattle.ddrescue_cli.specs.Told.{Told}
use Rattle.ddrescue_cli.specs.Tasks.{TaskOutside, with_did}
use Rattle.ddrescue_cli.specs.ToldParts.{asked_of, files_of}
use Rattle.task_files.specs.Work.{files_rows}
use Rattle.task_sweeps.specs.Pattern.{IsRepeated}
use Rattle.task_sweeps.specs.Modes.{Fills, Generates, fill_rows, fill_setting, generate_rows}
use Rattle.ddrescue_cli.specs.Ddrescue.{Ddrescue, TaskDone}
use Rattle.ddrescue_laws.specs.Laws.{IsVerdict, NothingFailed}

-- the promise of a filling
abbrev pub promised_fill : {t : Told} {types : TypeSet} {c : Command} → Ddrescue t → AskTask t.words (Fill types c)
    → TaskDone (Fill types c) t
promised_fill {t} {types} {c} d asks = d.does.asked_for (Fill types c) asks

-- what a filling was asked for, by its promise
abbrev pub filling_setting : (t : Told) {types : TypeSet} {c : Command} → TaskDone (Fill types c) t → Setting
filling_setting t {types} {c} p = fill_setting c (command_line program_name t.words) p.outside.top p.outside.maps

-- the promise of a generating
abbrev pub promised_generate : {t : Told} {c : Command} → Ddrescue t → AskTask t.words (Generate c)
    → TaskDone (Generate c) t
promised_generate {t} {c} d asks = d.does.asked_for (Generate c) asks

-- nothing of a filling is refused
pub record FillsUnrefused (c : Command) (o : TaskOutside) : Type 0 where
  pub pattern : RefuseNothing (fill_rows c o.found o.end)
  pub files : RefuseNothing (files_rows true c o.found o.top)

-- If nothing failed, nothing is refused, the pattern came whole and memory doesn't run out, a filling is done, whoever
-- tells.
abbrev pub FillIsDoneUnless : Type 0
FillIsDoneUnless = (t : Told) (types : TypeSet) (c : Command) (d : Ddrescue t) (asks : AskTask t.words (Fill types c))
    → NothingFailed t → FillsUnrefused c (promised_fill d asks).outside → t.answer ≢ PatternUnread
    → t.answer ≢ NoMemory → t.answer ≡ Done

-- If nothing failed, nothing is refused and memory doesn't run out, a generating is done, whoever tells.
abbrev pub GenerateIsDoneUnless : Type 0
GenerateIsDoneUnless = (t : Told) (c : Command) (d : Ddrescue t) (asks : AskTask t.words (Generate c)) → NothingFailed t
    → RefuseNothing (generate_rows c (promised_generate d asks).outside.found (promised_generate d asks).outside.end)
    → t.answer ≢ NoMemory → t.answer ≡ Done

-- An answer of a filling that names a failed call names one that a step makes.
abbrev pub FillFaultsAreOfSteps : Type 0
FillFaultsAreOfSteps = (t : Told) (types : TypeSet) (c : Command) (d : Ddrescue t) (call : SiteCall)
    (earlier : Option Stop) → AskTask t.words (Fill types c) → t.answer ≡ SiteFault call earlier → IsRescueCall call

-- An answer of a generating that names a failed call names one that a step makes.
abbrev pub GenerateFaultsAreOfSteps : Type 0
GenerateFaultsAreOfSteps = (t : Told) (c : Command) (d : Ddrescue t) (call : SiteCall) (earlier : Option Stop)
    → AskTask t.words (Generate c) → t.answer ≡ SiteFault call earlier → IsGenerateCall call

-- If the files tell, a filling that came to no sweep leaves every file as it was, except that an absent output may be
-- made, empty; and then, if a settle failed, an absent draft.
abbrev pub UnbegunFillLeaves : Type 0
UnbegunFillLeaves = (t : Told) (types : TypeSet) (c : Command) (d : Ddrescue t) (asks : AskTask t.words (Fill types c))
    → IsTrue t.before.site.tells → (promised_fill d asks).did.gain.times ≡ []
    → (AllStand (files_of t) (files_in t.after.site) ⊎ OutputMade c.outfile (files_of t) (files_in t.after.site))
    ⊎ ((has_unsettled (promised_fill d asks).did.gain.calls ≡ true)
    × OutputAndDraftMade c.outfile (draft_asked c) (files_of t) (files_in t.after.site))

-- If the files tell, a generating that came to no sweep leaves every file as it was; but if a settle failed, an absent
-- draft may be made, empty.
abbrev pub UnbegunGenerateLeaves : Type 0
UnbegunGenerateLeaves = (t : Told) (c : Command) (d : Ddrescue t) (asks : AskTask t.words (Generate c))
    → IsTrue t.before.site.tells → (promised_generate d asks).did.gain.times ≡ []
    → AllStand (files_of t) (files_in t.after.site)
    ⊎ ((has_unsettled (promised_generate d asks).did.gain.calls ≡ true)
    × DraftMade (draft_asked c) (files_of t) (files_in t.after.site))

-- an answer that comes before a sweep: a refusal, a pattern that was lost, or a call of the opening that failed
pub record IsBeforeSweep (e : Ending) : Type 0 where
  pub done : e ≢ Done
  pub room : e ≢ NoMemory
  pub call : (call : SiteCall) (earlier : Option Stop) → e ≡ SiteFault call earlier → IsOfOpening call

-- If the files tell, a filling with an answer that comes before a sweep leaves every file as it was, except that an
-- absent output may be made, empty.
abbrev pub RefusedFillLeaves : Type 0
RefusedFillLeaves = (t : Told) (types : TypeSet) (c : Command) (d : Ddrescue t) → AskTask t.words (Fill types c)
    → IsTrue t.before.site.tells → IsBeforeSweep t.answer
    → AllStand (files_of t) (files_in t.after.site) ⊎ OutputMade c.outfile (files_of t) (files_in t.after.site)

-- If the files tell, a generating with an answer that comes before a sweep leaves every file as it was.
abbrev pub RefusedGenerateLeaves : Type 0
RefusedGenerateLeaves = (t : Told) (c : Command) (d : Ddrescue t) → AskTask t.words (Generate c)
    → IsTrue t.before.site.tells → IsBeforeSweep t.answer → AllStand (files_of t) (files_in t.after.site)

-- A filling whose pattern comes whole has one verdict at most, by its command, its pattern's length and the files that
-- it finds.
abbrev pub FillHasOneVerdict : Type 0
FillHasOneVerdict = (types : TypeSet) (c : Command) (found : Found) (input_end top : ℕ) (s s' : Setting)
    (buffer buffer' : List ℕ) (pieces pieces' : List Swept) (end end' : RunEnd) (lines lines' : List (List ℕ))
    (e e' : Ending) (d d' : Deeds) → Fills types c found input_end top s buffer pieces end lines e d
    → Fills types c found input_end top s' buffer' pieces' end' lines' e' d' → IsVerdict e → IsVerdict e'
    → e ≢ PatternUnread → e' ≢ PatternUnread → e ≡ e'

-- A generating has one verdict at most, by its command and the files that it finds.
abbrev pub GenerateHasOneVerdict : Type 0
GenerateHasOneVerdict = (c : Command) (found : Found) (input_end : ℕ) (s s' : Setting) (pieces pieces' : List Swept)
    (end end' : RunEnd) (lines lines' : List (List ℕ)) (e e' : Ending) (d d' : Deeds)
    → Generates c found input_end s pieces end lines e d → Generates c found input_end s' pieces' end' lines' e' d'
    → IsVerdict e → IsVerdict e' → e ≡ e'

-- What a sweep leaves that went on to its end, over the map of its mapfile: all its pieces in order, and a mapfile that
-- says that it is finished.
pub record IsSweptThrough (t : Told) (s : Setting) (w : Sweeper) (pieces : List Swept) (statuses : List Status)
    (state : Option MapState) (time : ℕ) : Type 0 where
  pub stands : Stands (files_of t s.names.map) s.end statuses state
  pub sweep : IsSweep s w (sweep_over w statuses state time) pieces
  pub over : IsSweptOut s w (after_pieces w (sweep_over w statuses state time) pieces)
  pub mapfile : files_in t.after.site s.names.map ≡ Some (record {
    bytes = text_of s.line (sweep_end true (after_pieces w (sweep_over w statuses state time) pieces));
    regular = true;
  })

-- no piece has this place of the output
abbrev pub HasNoPiece : Setting → List Swept → (y : ℕ) → Type 0
HasNoPiece s pieces y = All (λ e. (y < place s e.pos) ⊎ (place s e.pos + e.len ≤ y)) pieces

-- What a filling leaves that is done: its map as it was, the pattern in each piece, and the old bytes elsewhere. If the
-- source tells, the pattern is the infile's front.
pub record LeavesFilled (t : Told) (s : Setting) (types : TypeSet) (buffer : List ℕ) (pieces : List Swept)
    : Type 0 where
  pub statuses : List Status
  pub state : Option MapState
  pub time : ℕ
  pub through : IsSweptThrough t s (filler s types buffer) pieces statuses state time
  pub map : (after_pieces (filler s types buffer) (sweep_over (filler s types buffer) statuses state time) pieces).map
      ≡ statuses
  pub pattern : IsTrue t.before.source.tells → IsRepeated (take s.cluster t.before.source.bytes) s.cluster buffer
  pub filled : AreFilled s buffer pieces (bytes_of (files_in t.after.site s.outfile))
  pub elsewhere : (y : ℕ) → y < length (bytes_of (files_of t s.outfile)) → HasNoPiece s pieces y
      → slice_get (bytes_of (files_in t.after.site s.outfile)) y ≡ slice_get (bytes_of (files_of t s.outfile)) y

-- If the files tell, a filling that is done leaves what `LeavesFilled` says.
abbrev pub DoneIsFilled : Type 0
DoneIsFilled = (t : Told) (types : TypeSet) (c : Command) (d : Ddrescue t) (asks : AskTask t.words (Fill types c))
    → IsTrue t.before.site.tells → t.answer ≡ Done
    → LeavesFilled t (filling_setting t (promised_fill d asks)) types (promised_fill d asks).outside.buffer
    (promised_fill d asks).outside.pieces

-- What a generating leaves that is done: a map of what the output held, and the output as it was.
pub record LeavesGenerated (t : Told) (s : Setting) (pieces : List Swept) : Type 0 where
  pub statuses : List Status
  pub state : Option MapState
  pub time : ℕ
  pub through : IsSweptThrough t s (generator s) pieces statuses state time
  pub given : AreGiven s (bytes_of (files_of t s.outfile)) pieces
  -- what its map calls finished was so before, or has a byte in the output
  pub held : (x : ℕ)
      → Has (after_pieces (generator s) (sweep_over (generator s) statuses state time) pieces).map Finished x
      → Has statuses Finished x ⊎ ((b : ℕ) × (slice_get (bytes_of (files_of t s.outfile)) (place s x) ≡ Some b))
  pub output : bytes_of (files_in t.after.site s.outfile) ≡ bytes_of (files_of t s.outfile)

-- If the files tell, a generating that is done leaves what `LeavesGenerated` says.
abbrev pub DoneIsGenerated : Type 0
DoneIsGenerated = (t : Told) (c : Command) (d : Ddrescue t) (asks : AskTask t.words (Generate c))
    → IsTrue t.before.site.tells → t.answer ≡ Done
    → LeavesGenerated t (asked_of c t (with_did (promised_generate d asks).outside (promised_generate d asks).did))
    (promised_generate d asks).outside.pieces
