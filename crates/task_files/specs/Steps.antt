-- What the steps of a rescue did, whether the objects tell or not. For contracts and proofs: no promise uses it.
use Rattle.std.specs.Prelude.{◌≡◌, ◌≢◌, ◌⊎◌, ⊤, ℕ, ◌<◌, ◌≤◌, ◌^◌, Bool, false, IsTrue, List, [], ◌++◌, length, map, Option, Some, None, Result, Ok, Err, IfSome, if◌then◌else◌}
use Rattle.fault_count.specs.Counts.{Rose}
use Rattle.block_list.specs.declared.status.Status.{Status}
use Rattle.block_list.specs.Tiled.{Tiled, statuses_in}
use Rattle.mapfile_text.specs.declared.state.MapState.{MapState}
use Rattle.mapfile_text.specs.declared.read.Mode.{Mode}
use Rattle.mapfile_text.specs.declared.read.MapError.{MapError}
use Rattle.mapfile_text.specs.declared.read.MapError.TheVariants.{NoStatusLine, NoMemory as OutOfMemory}
use Rattle.faulty_source.specs.SourceChanges.{Keeps as SourceKeeps}
use Rattle.crash_site.specs.declared.site.SiteCall.{SiteCall}
use Rattle.crash_site.specs.declared.site.SiteCall.TheVariants.{ImageOpen, MapRead}
use Rattle.crash_site.specs.Files.{File, file_named}
use Rattle.crash_site.specs.Calls.{Call, Done as Returned}
use Rattle.crash_site.specs.CallsMade.{BrokeAt}
use Rattle.crash_site.specs.SiteState.{SiteState, files_in}
use Rattle.crash_site.specs.SiteChanges.{Keeps as SiteKeeps}
use Rattle.mapfile_resume.specs.declared.named.NamedFault.{NamedFault}
use Rattle.mapfile_resume.specs.declared.named.NamedFault.TheVariants.{ReadFailed, Absent, Refused as NotRead, NoMemory as Starving}
use Rattle.mapfile_save.specs.MapNames.{MapNames}
use Rattle.mapfile_resume.specs.Named.{IsMapOf}
use Rattle.mapfile_resume.specs.Resuming.{IsResumeCall}
use Rattle.rescue_console.specs.ClockState.{Keeps as ClockKeeps}
use Rattle.rescue_console.specs.Speaking.{SpeaksOn, out_pieces}
use Rattle.rescue_rules.specs.Setting.{Setting}
use Rattle.rescue_rules.specs.Snapshots.{heading_at}
use Rattle.rescue_rules.specs.Start.{Stands}
use Rattle.rescue_rules.specs.Laws.{AreTimes}
use Rattle.rescue_rules.specs.Work.{Gain, IsNothing, AreMapReads}
use Rattle.rescue_rules.specs.Across.{Across}
use Rattle.program_promise.specs.Work.{Deeds, Works}
use Rattle.program_promise.specs.Parts.{DidPart}
use Rattle.ddrescue_words.specs.declared.options.Options.{Options}
use Rattle.ddrescue_words.specs.Command.{Command}
use Rattle.ddrescue_words.specs.Asking.{AreInLimits, told_by}
use Rattle.task_files.specs.declared.load.LoadedMap.{LoadedMap}
use Rattle.task_files.specs.declared.checked.CheckedCommand.{CheckedCommand}
use Rattle.task_files.specs.declared.ending.Which.{Which}
use Rattle.task_files.specs.declared.ending.Which.TheVariants.{RunMap}
use Rattle.task_files.specs.declared.ending.Ended.{Ended}
use Rattle.task_files.specs.declared.ending.Ending.{Ending}
use Rattle.task_files.specs.declared.ending.Ending.TheVariants.{NoMap, NotRegular, MapRefused, NoOutput, SiteFault, NoMemory}
use Rattle.task_files.specs.Answers.{Causes, drafting_left}
use Rattle.task_files.specs.Names.{AreNamedApart, first_same_with_optional_map}
use Rattle.task_files.specs.Asked.{ArePlacedBy, Maps, names_by, setting_of}
use Rattle.task_files.specs.Maps.{Found, AreAskedFor, AreMapsIn, IsListing, MapfileLists, mapfile_of}
use Rattle.task_files.specs.Findings.{Findings, HasGainedReads, Agrees}
use Rattle.program_promise.specs.Opens.{AreOpens}
use Rattle.task_files.specs.Work.{RunsOver, Rescues, rescue_faults, map_rows, output_rows, load_rows, opened_rows, worked_rows}

-- how a rescue ends whose parts returned this
abbrev pub ending_of : Result Ended Ending → Ending
ending_of (Ok ended) = ended.ending
ending_of (Err e) = e

-- whether a rescue is heard after its parts returned this: if it was refused it is heard as before
abbrev pub heard_after : (heard : Bool) → Result Ended Ending → Bool
heard_after heard (Ok ended) = ended.heard
heard_after heard (Err e) = heard

-- what an answer says of the objects: their counts have its cause, a draft is left begun by it or not, and what was told
-- before stays
pub record Leaves (e : Ending) (o : Across) : Type 0 where
  pub cause : Causes e o.source o.source' o.site o.site'
  pub draft : o.site'.is_drafting ≡ drafting_left e
  pub source : SourceKeeps o.source o.source'
  pub site : SiteKeeps o.site o.site'
  pub clock : ClockKeeps o.clock o.clock'

-- what a rescue needs before it opens a file: the names of its mapfile and its draft, apart from the outfile's, files
-- of different names, the heading of a map that wasn't saved yet, and options within their limits
pub record IsChecked (checked : CheckedCommand) : Type 0 where
  pub names : checked.names ≡ names_by (told_by checked.command)
  pub apart : AreNamedApart (told_by checked.command).outfile checked.names
  pub different : first_same_with_optional_map (told_by checked.command).infile (told_by checked.command).outfile
      (names_by (told_by checked.command)) ≡ None
  pub heading : checked.heading ≡ heading_at checked.heading.line 0 0
  pub limits : AreInLimits checked.command.options

-- a map that reaches an input's end and the state that a mapfile shows, if one does, within the limits
pub record SuitsInput (end : ℕ) (map : List Status) (state : Option MapState) : Type 0 where
  pub long : end ≤ length map
  pub short : length map < 2 ^ 63
  pub pos : IfSome state (λ shown. shown.pos < 2 ^ 63)
  pub pass : IfSome state (λ shown. 0 < shown.pass)

-- a map and a state to begin with, for an input with this end, each position of which has a place in the output
pub record CanBegin (o : Options) (end : ℕ) (map : List Status) (state : Option MapState) : Type 0 where
  pub placed : ArePlacedBy o end
  pub end_max : end < 2 ^ 63
  pub fits : SuitsInput end map state

-- why the output wasn't opened, by the count of failed calls
abbrev pub OutputCause : Ending → (faults faults' : ℕ) → Type 0
OutputCause e faults faults' =
    ((e ≡ NotRegular) × (faults' ≡ faults)) ⊎ ((e ≡ NoOutput) × (faults' ≡ faults))
    ⊎ ((e ≡ SiteFault ImageOpen None) × Rose faults faults')

-- why a load stopped, by the count of failed calls
abbrev pub LoadCause : Ending → (faults faults' : ℕ) → Type 0
LoadCause e faults faults' =
    ((e ≡ NoMemory) × (faults' ≡ faults))
    ⊎ ((error : MapError) × (e ≡ MapRefused RunMap error) × (error ≢ NoStatusLine) × (error ≢ OutOfMemory)
    × (faults' ≡ faults))
    ⊎ ((call : SiteCall) × (e ≡ SiteFault call None) × IsResumeCall call × Rose faults faults')

-- The record gained this at its end if the site tells; and so did the journal if the input tells, as it is seen, and
-- the readings if the clock tells.
pub record Gains (test : Option (List Status)) (o : Across) (g : Gain) : Type 0 where
  pub calls : IsTrue o.site.tells → o.site'.calls ≡ o.site.calls ++ g.calls
  pub reads : IsTrue o.source.tells → HasGainedReads test o.source o.source' g.reads
  pub times : IsTrue o.clock'.tells → o.clock'.readings ≡ o.clock.readings ++ g.times
  pub fit : AreTimes g.times

-- These lines were said by one who is heard before, and after them or not.
abbrev pub SaysLines : (lines : List (List ℕ)) → (heard heard' : Bool) → Across → Type 0
SaysLines lines heard heard' o = SpeaksOn (out_pieces lines) heard heard' o.console o.console'

-- what a run did over a map that it began with, up to its end or to where it stopped, and what it said
pub record DidRun (s : Setting) (test : Option (List Status)) (statuses : List Status) (state : Option MapState)
    (heard heard' : Bool) (e : Ending) (o : Across) : Type 0 where
  pub gain : Gain
  pub gains : Gains test o gain
  pub lines : List (List ℕ)
  pub says : SaysLines lines heard heard' o
  pub runs : RunsOver s statuses state lines e gain

-- the answer for a map that an option names and that couldn't be loaded
abbrev pub refusal_of : Which → NamedFault → Ending
refusal_of which ReadFailed = SiteFault MapRead None
refusal_of which Absent = NoMap which
refusal_of which (NotRead error) = MapRefused which error
refusal_of which Starving = NoMemory

-- a map that an option may name has these tiles, which are those of its file
abbrev pub HasTiles : (name : Option (List ℕ)) → Mode → Option Tiled → Option File → Type 0
HasTiles None mode tiles file = statuses_in tiles ≡ None
HasTiles (Some name) mode None file = ⊥
HasTiles (Some name) mode (Some tiles) file = IsMapOf file mode tiles.statuses

-- what the read of a map that an option may name did
abbrev pub ReadsMap : Which → Mode → (name : Option (List ℕ)) → Result (Option Tiled) Ending → (old new : SiteState)
    → Type 0
ReadsMap which mode name result old new =
    DidPart rescue_faults (map_rows which mode name) (file_named name (files_in old))
    (HasTiles name mode) result old new

-- what the open of the output did
abbrev pub OpensOutput : {T : Type 0} → (makes forced : Bool) → (outfile : List ℕ) → Result T Ending
    → (old new : SiteState) → Type 0
OpensOutput makes forced outfile result old new =
    DidPart rescue_faults (output_rows makes forced outfile) (files_in old outfile) (λ x file. ⊤) result old new

-- what a rescue begins with is what its mapfile stands for, for an input with this length
pub record StartsAs (end : ℕ) (start : LoadedMap) (file : Option File) : Type 0 where
  pub stands : Stands file end start.tiles.statuses start.state
  pub lists : MapfileLists file start.first start.listed_end

-- what the load of a mapfile did, if there is one
abbrev pub Loads : (mapfile : Option (List ℕ)) → (end : ℕ) → Result LoadedMap Ending → (old new : SiteState) → Type 0
Loads mapfile end result old new =
    DidPart rescue_faults (load_rows mapfile) (file_named mapfile (files_in old)) (StartsAs end) result old new

-- the name of a mapfile, by its names
abbrev pub mapfile_by : Option MapNames → Option (List ℕ)
mapfile_by None = None
mapfile_by (Some names) = Some names.map

-- what maps and a mapfile that were read say of the positions that are to be rescued
abbrev pub maps_read : Options → (domain test : Option Tiled) → LoadedMap → Maps
maps_read o domain test start = record {
  domain = statuses_in domain;
  test = statuses_in test;
  listed = if o.complete_only then Some (start.first, start.listed_end) else None;
}

-- why the read of a map that an option names stopped, by the count of failed calls
abbrev pub MapCause : Which → Ending → (faults faults' : ℕ) → Type 0
MapCause which e faults faults' =
    ((e ≡ NoMemory) × (faults' ≡ faults))
    ⊎ ((e ≡ NoMap which) × (faults' ≡ faults))
    ⊎ ((error : MapError) × (e ≡ MapRefused which error) × (error ≢ OutOfMemory) × (faults' ≡ faults))
    ⊎ ((e ≡ SiteFault MapRead None) × Rose faults faults')

-- nothing was done except that maps were read, the last of which may have failed
pub record IsOnlyMaps (g : Gain) : Type 0 where
  pub maps : List Call
  pub are : AreMapReads maps
  pub calls : (g.calls ≡ map Returned maps) ⊎ BrokeAt MapRead maps [] g.calls
  pub reads : g.reads ≡ []
  pub times : g.times ≡ []

-- the maps by these statuses of those that options name, and what the mapfile lists
abbrev pub maps_of : (domain test : Option (List Status)) → (listed : Option (ℕ × ℕ)) → Maps
maps_of domain test listed = record { domain = domain; test = test; listed = listed }

-- What the work did after the maps that options name, which have these statuses. Their files may be any.
pub record DidAfterMaps (c : Command) (line : List ℕ) (domain test : Option (List Status)) (heard heard' : Bool)
    (e : Ending) (o : Across) : Type 0 where
  pub found : Found
  pub output : IsTrue o.site.tells → found.output ≡ files_in o.site c.outfile
  pub mapfile : IsTrue o.site.tells → found.mapfile ≡ mapfile_of c (files_in o.site)
  pub end : ℕ
  pub own_end : IsTrue o.source.tells → end ≡ length o.source.bytes
  pub listed : Option (ℕ × ℕ)
  pub whole : c.options.complete_only ≡ false → listed ≡ None
  pub lists : IsListing c found.mapfile listed
  pub did : Deeds
  pub opens : AreOpens did.opens o.source o.source'
  pub gains : Gains test o did.gain
  pub lines : List (List ℕ)
  pub works : Works rescue_faults (opened_rows c found end)
      (Rescues (setting_of c line end (maps_of domain test listed)) found.mapfile lines) e did
  pub silent : did.gain.times ≡ [] → lines ≡ []
  pub says : SaysLines lines heard heard' o
  pub short : IsNothing did.gain ⊎ (end < 2 ^ 63)

-- what a rescue did after the words
pub record Worked (c : Command) (line : List ℕ) (heard heard' : Bool) (e : Ending) (o : Across) : Type 0 where
  pub outside : Findings
  pub agrees : Agrees c o outside.found outside.end outside.maps outside.did
  pub asked_maps : AreAskedFor c outside.maps
  pub are_maps : AreMapsIn c outside.found outside.maps
  pub works : Works rescue_faults (worked_rows c outside.found outside.end)
      (Rescues (setting_of c line outside.end outside.maps) outside.found.mapfile outside.lines) e outside.did
  pub silent : outside.did.gain.times ≡ [] → outside.lines ≡ []
  pub says : SaysLines outside.lines heard heard' o
  pub fit : AreTimes outside.did.gain.times
  pub short : IsOnlyMaps outside.did.gain ⊎ (outside.end < 2 ^ 63)
