-- Maps that options name: how they are read, and what their load answers.
use Rattle.std.specs.Prelude.{◌≡◌, ◌≢◌, ⊤, ℕ, ◌≤◌, Bool, List, [], length, Option, Some, None, Result, Ok, Err, if◌then◌else◌}
use Rattle.fault_count.specs.Counts.{Rose}
use Rattle.block_list.specs.declared.status.Status.{Status}
use Rattle.block_list.specs.declared.status.Status.TheVariants.{NonTried}
use Rattle.mapfile_text.specs.declared.state.MapState.{MapState}
use Rattle.mapfile_text.specs.declared.read.Mode.{Mode}
use Rattle.mapfile_text.specs.declared.read.Mode.TheVariants.{Tight, Loose}
use Rattle.mapfile_reader.specs.declared.read.ReadMap.{ReadMap}
use Rattle.mapfile_text.specs.declared.read.MapError.TheVariants.{NoMemory as OutOfMemory}
use Rattle.mapfile_text.specs.MapText.{text_limit, IsMapText}
use Rattle.crash_site.specs.Files.{File}
use Rattle.crash_site.specs.Calls.{Entry}
use Rattle.mapfile_resume.specs.declared.load.ResumeFault.{ResumeFault}
use Rattle.mapfile_resume.specs.declared.load.ResumeFault.TheVariants.{Site, Map as Fault, NoMemory as Starving}
use Rattle.mapfile_resume.specs.declared.named.NamedFault.{NamedFault}
use Rattle.mapfile_resume.specs.declared.named.NamedFault.TheVariants.{ReadFailed, Absent, Refused, NoMemory}
use Rattle.mapfile_resume.specs.Resuming.{IsReadAs, IsRefusedFor, LoadEnded, StarvedInLoad, BrokeInLoad}

-- how such a map is read: if that is asked for it may have gaps, which aren't finished
abbrev pub map_mode : (loose : Bool) → Mode
map_mode loose = if loose then Loose NonTried else Tight

-- a file is there, and its text, which isn't too long, has these statuses
pub record IsMapOf (file : Option File) (mode : Mode) (statuses : List Status) : Type 0 where
  pub there : File
  pub is : file ≡ Some there
  pub within : length there.bytes ≤ text_limit
  pub shown : MapState
  pub first : ℕ
  pub listed : Bool
  pub reads : IsMapText there.bytes mode shown first listed statuses

-- the answer for a map that must be there, by what its load found
abbrev pub named_of : Result (Option ReadMap) ResumeFault → Result ReadMap NamedFault
named_of (Ok (Some m)) = Ok m
named_of (Ok None) = Err Absent
named_of (Err (Site call)) = Err ReadFailed
named_of (Err (Fault e)) = Err (Refused e)
named_of (Err Starving) = Err NoMemory

-- What the load of a named map answers of its file, and its calls: absent only if there is no such file, and refused
-- for what is wrong with its text. A text that says nothing is refused too, for lack of a status line.
abbrev pub LoadsNamed : List ℕ → Mode → Option File → Result ReadMap NamedFault → List Entry → List Entry → Type 0
LoadsNamed name mode file (Ok m) calls calls' = IsReadAs file mode m × LoadEnded [] name file calls calls'
LoadsNamed name mode file (Err ReadFailed) calls calls' = BrokeInLoad [] name file calls calls'
LoadsNamed name mode file (Err Absent) calls calls' = (file ≡ None) × LoadEnded [] name file calls calls'
LoadsNamed name mode file (Err (Refused e)) calls calls' =
    IsRefusedFor file mode e × LoadEnded [] name file calls calls'
LoadsNamed name mode file (Err NoMemory) calls calls' = StarvedInLoad [] name file calls calls'

-- what the load of a named map answers of its file, without its calls
abbrev pub IsNamedAs : Mode → Result ReadMap NamedFault → Option File → Type 0
IsNamedAs mode (Ok m) file = IsReadAs file mode m
IsNamedAs mode (Err ReadFailed) file = ⊤
IsNamedAs mode (Err Absent) file = file ≡ None
IsNamedAs mode (Err (Refused e)) file = IsRefusedFor file mode e
IsNamedAs mode (Err NoMemory) file = ⊤

-- The count of faults by what was answered: it rose by one exactly when a read failed. Lack of memory is never reported
-- as an error of the text.
abbrev pub NamedCounts : Result ReadMap NamedFault → (faults faults' : ℕ) → Type 0
NamedCounts (Ok m) faults faults' = faults' ≡ faults
NamedCounts (Err ReadFailed) faults faults' = Rose faults faults'
NamedCounts (Err Absent) faults faults' = faults' ≡ faults
NamedCounts (Err (Refused e)) faults faults' = (faults' ≡ faults) × (e ≢ OutOfMemory)
NamedCounts (Err NoMemory) faults faults' = faults' ≡ faults

-- if a file is named, it is there and has the statuses that are given; if none is named, no statuses are given
abbrev pub HasStatuses : Option (List ℕ) → Mode → Option File → Option (List Status) → Type 0
HasStatuses None mode file statuses = statuses ≡ None
HasStatuses (Some name) mode file None = ⊥
HasStatuses (Some name) mode file (Some statuses) = IsMapOf file mode statuses
