-- What a mapfile is read as, alone and after the barrier.
use Rattle.std.specs.Prelude.{◌≡◌, ◌≢◌, ◌⊎◌, ⊤, ℕ, ◌<◌, ◌≤◌, ◌^◌, Bool, IsTrue, List, [], ◌∷◌, ◌++◌, length, Option, Some, None, Result, Ok, Err}
use Rattle.fault_count.specs.Counts.{Rose}
use Rattle.mapfile_text.specs.declared.read.Mode.{Mode}
use Rattle.mapfile_text.specs.declared.read.Mode.TheVariants.{Tight}
use Rattle.mapfile_reader.specs.declared.read.ReadMap.{ReadMap}
use Rattle.mapfile_text.specs.declared.read.MapError.{MapError}
use Rattle.mapfile_text.specs.declared.read.MapError.TheVariants.{NoStatusLine, NoMemory as OutOfMemory}
use Rattle.mapfile_text.specs.MapText.{text_limit, IsMapText, Blank, IsRefused}
use Rattle.crash_site.specs.declared.site.SiteCall.{SiteCall}
use Rattle.crash_site.specs.declared.site.SiteCall.TheVariants.{ImageSync, MapRead, MapSettle}
use Rattle.crash_site.specs.Files.{File, draft_of}
use Rattle.crash_site.specs.Calls.{Call, Entry}
use Rattle.crash_site.specs.CallsMade.{Made, BrokeAt}
use Rattle.crash_site.specs.Disk.{Disk, only, synced}
use Rattle.crash_site.specs.SiteState.{SiteState}
use Rattle.mapfile_resume.specs.declared.load.ResumeFault.{ResumeFault}
use Rattle.mapfile_resume.specs.declared.load.ResumeFault.TheVariants.{Site, Map as Refused, NoMemory}
use Rattle.mapfile_resume.specs.declared.resume.Resumed.{Resumed}
use Rattle.mapfile_resume.specs.declared.resume.Resumed.TheVariants.{Fresh, Map}
use Rattle.mapfile_save.specs.MapNames.{MapNames}
use Rattle.mapfile_save.specs.SaveStops.{disk_of}
use Rattle.mapfile_save.specs.Loading.{BeginsLoad, IsLoad, barrier_calls}

-- a file is there, and its text is this map
pub record IsReadAs (file : Option File) (mode : Mode) (m : ReadMap) : Type 0 where
  pub there : File
  pub is : file ≡ Some there
  pub within : length there.bytes ≤ text_limit
  pub reads : IsMapText there.bytes mode m.state m.first m.listed m.tiles.statuses

-- a file is there, and its text is refused: it is too long, or no map
pub record IsRefusedFor (file : Option File) (mode : Mode) (e : MapError) : Type 0 where
  pub there : File
  pub is : file ≡ Some there
  pub why : IsRefused there.bytes mode e

-- no file is there, or one within the limit that says nothing
pub data IsLikeNone (file : Option File) : Type 0 where
  NoFile : file ≡ None → IsLikeNone file
  Silent : (there : File) → file ≡ Some there → length there.bytes ≤ text_limit → Blank there.bytes → IsLikeNone file

-- the reads of a load that ended, after other calls
abbrev pub LoadEnded : List Call → List ℕ → Option File → List Entry → List Entry → Type 0
LoadEnded before name file calls calls' =
    (load : List Call) × IsLoad name file load × Made (before ++ load) calls calls'

-- the first reads of a load, after other calls, for which memory ran out
abbrev pub StarvedInLoad : List Call → List ℕ → Option File → List Entry → List Entry → Type 0
StarvedInLoad before name file calls calls' =
    (load : List Call) × BeginsLoad name file load × Made (before ++ load) calls calls'

-- a read of a load failed, after other calls
abbrev pub BrokeInLoad : List Call → List ℕ → Option File → List Entry → List Entry → Type 0
BrokeInLoad before name file calls calls' =
    (load : List Call) × BeginsLoad name file load × BrokeAt MapRead (before ++ load) calls calls'

-- What a load answers of a file, and its calls.
abbrev pub LoadAnswers : List ℕ → Mode → Option File → Result (Option ReadMap) ResumeFault → List Entry → List Entry
    → Type 0
LoadAnswers name mode file (Ok None) calls calls' = (file ≡ None) × LoadEnded [] name file calls calls'
LoadAnswers name mode file (Ok (Some m)) calls calls' = IsReadAs file mode m × LoadEnded [] name file calls calls'
LoadAnswers name mode file (Err (Site call)) calls calls' = (call ≡ MapRead) × BrokeInLoad [] name file calls calls'
LoadAnswers name mode file (Err (Refused e)) calls calls' =
    IsRefusedFor file mode e × LoadEnded [] name file calls calls'
LoadAnswers name mode file (Err NoMemory) calls calls' = StarvedInLoad [] name file calls calls'

-- a call that failed as a rescue resumed: one of the barrier, or a read after it
abbrev pub BrokeAsResumed : MapNames → Option File → SiteCall → List Entry → List Entry → Type 0
BrokeAsResumed names file call calls calls' =
    BrokeAt call (barrier_calls names) calls calls'
    ⊎ ((call ≡ MapRead) × BrokeInLoad (barrier_calls names) names.map file calls calls')

-- what a text without a status line is resumed as, and one with another error
abbrev pub refused_as : MapError → Result Resumed ResumeFault
refused_as NoStatusLine = Ok Fresh
refused_as e = Err (Refused e)

-- what a rescue goes on with, by what its mapfile was read as
abbrev pub resumed_of : Result (Option ReadMap) ResumeFault → Result Resumed ResumeFault
resumed_of (Ok None) = Ok Fresh
resumed_of (Ok (Some m)) = Ok (Map m)
resumed_of (Err (Site call)) = Err (Site call)
resumed_of (Err (Refused e)) = refused_as e
resumed_of (Err NoMemory) = Err NoMemory

-- What a resume answers of a mapfile, and its calls: one that says nothing is like none.
abbrev pub Resumes : MapNames → Option File → Result Resumed ResumeFault → List Entry → List Entry → Type 0
Resumes names file (Ok Fresh) calls calls' =
    IsLikeNone file × LoadEnded (barrier_calls names) names.map file calls calls'
Resumes names file (Ok (Map m)) calls calls' =
    IsReadAs file Tight m × LoadEnded (barrier_calls names) names.map file calls calls'
Resumes names file (Err (Site call)) calls calls' = BrokeAsResumed names file call calls calls'
Resumes names file (Err (Refused e)) calls calls' =
    IsRefusedFor file Tight e × (e ≢ NoStatusLine) × LoadEnded (barrier_calls names) names.map file calls calls'
Resumes names file (Err NoMemory) calls calls' = StarvedInLoad (barrier_calls names) names.map file calls calls'

-- the calls of a resume
abbrev pub IsResumeCall : SiteCall → Type 0
IsResumeCall call = (call ≡ MapSettle) ⊎ (call ≡ ImageSync) ⊎ (call ≡ MapRead)

-- The count of faults by why there is no answer: it rose by one exactly when a call failed, which is one of a resume.
-- Lack of memory is never reported as an error of the text.
abbrev pub FaultCounts : ResumeFault → (faults faults' : ℕ) → Type 0
FaultCounts (Site call) faults faults' = IsResumeCall call × Rose faults faults'
FaultCounts (Refused e) faults faults' = (faults' ≡ faults) × (e ≢ OutOfMemory)
FaultCounts NoMemory faults faults' = faults' ≡ faults

-- the count of faults, by what was answered
abbrev pub CountsFaults : {T : Type 0} → Result T ResumeFault → (faults faults' : ℕ) → Type 0
CountsFaults (Ok x) faults faults' = faults' ≡ faults
CountsFaults (Err e) faults faults' = FaultCounts e faults faults'

-- a state that was read is within the limits
pub record IsWithinLimits (m : ReadMap) : Type 0 where
  pub pos : m.state.pos < 2 ^ 63
  pub pass : 0 < m.state.pass

-- if a rescue resumes from a map, the state that was read is within the limits
abbrev pub ResumedWithinLimits : Result Resumed ResumeFault → Type 0
ResumedWithinLimits (Ok Fresh) = ⊤
ResumedWithinLimits (Ok (Map m)) = IsWithinLimits m
ResumedWithinLimits (Err e) = ⊤

-- After the barrier nothing is pending: each stop from here on finds the mapfile as it reads, and the open image too,
-- except where it was lost. (Its name is not the mapfile's nor that of the mapfile's draft.)
pub record NothingPending (names : MapNames) (was now : Disk) : Type 0 where
  pub mapfile : now.shows names.map ≡ only (was.reads.files names.map)
  pub image : (image : List ℕ) → was.reads.image ≡ Some image → image ≢ names.map → image ≢ draft_of names.map
      → now.shows image ≡ synced (was.reads.files image) (was.shows image)
  pub reads : now.reads ≡ was.reads

-- after a resume nothing is pending, if no call of the barrier failed
abbrev pub SettlesAll : MapNames → Result Resumed ResumeFault → (old new : SiteState) → Type 0
SettlesAll names (Ok r) old new = NothingPending names (disk_of old) (disk_of new)
SettlesAll names (Err (Site call)) old new = call ≡ MapRead → NothingPending names (disk_of old) (disk_of new)
SettlesAll names (Err (Refused e)) old new = NothingPending names (disk_of old) (disk_of new)
SettlesAll names (Err NoMemory) old new = NothingPending names (disk_of old) (disk_of new)

-- What is answered of a file: there is one of which it holds, which is the site's own if the site tells.
pub record IsOfFile (own : Option File) (tells : Bool) (Holds : Option File → Type 0) : Type 0 where
  pub file : Option File
  pub is_own : IsTrue tells → file ≡ own
  pub holds : Holds file

-- what a load that answered this says of the file that it read
abbrev pub ReadsAs : Mode → Result (Option ReadMap) ResumeFault → Option File → Type 0
ReadsAs mode (Ok None) file = file ≡ None
ReadsAs mode (Ok (Some m)) file = IsReadAs file mode m
ReadsAs mode (Err (Site call)) file = ⊤
ReadsAs mode (Err (Refused e)) file = IsRefusedFor file mode e
ReadsAs mode (Err NoMemory) file = ⊤

-- what a resume that answered this says of the mapfile that it read
abbrev pub ResumesAs : Result Resumed ResumeFault → Option File → Type 0
ResumesAs (Ok Fresh) file = IsLikeNone file
ResumesAs (Ok (Map m)) file = IsReadAs file Tight m
ResumesAs (Err (Site call)) file = ⊤
ResumesAs (Err (Refused e)) file = IsRefusedFor file Tight e × (e ≢ NoStatusLine)
ResumesAs (Err NoMemory) file = ⊤
