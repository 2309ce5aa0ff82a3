-- What the read of a map did, whether the files tell or not.
use Rattle.std.proofs.Common.{◌≡◌, ℕ, IsTrue, List, [], Some, Ok, Err, refl}
use Rattle.mapfile_text.specs.declared.read.Mode.{Mode}
use Rattle.mapfile_reader.specs.declared.read.ReadMap.{ReadMap}
use Rattle.crash_site.specs.declared.site.SiteCall.TheVariants.{MapRead as MapReadCall}
use Rattle.crash_site.specs.SiteState.{SiteState, files_in}
use Rattle.mapfile_resume.specs.Resuming.{IsReadAs, IsOfFile, LoadEnded, StarvedInLoad, BrokeInLoad}
use Rattle.program_promise.proofs.LoadedLemmas.{LoadPart, reads_alone, read_passes, read_is_map, went_through, refused, starved, broke}
use Rattle.ddrescuelog_cli.specs.declared.ending.Which.{Which}
use Rattle.ddrescuelog_cli.specs.declared.ending.LogEnding.{LogEnding}
use Rattle.ddrescuelog_cli.specs.declared.ending.LogEnding.TheVariants.{NoMap, MapRefused, SiteFault, NoMemory}
use Rattle.ddrescuelog_cli.specs.Modes.{log_faults}
use Rattle.ddrescuelog_cli.specs.Refusals.{IfNamed, MapIsRefused}
use Rattle.ddrescuelog_cli.specs.Steps.{ReadsMap, ReadsNamed}

-- ---- the read

-- the file of a name is read alone, and what comes of it is the map
abbrev reading : Which → Mode → List ℕ → LoadPart LogEnding ReadMap
reading which mode name =
    reads_alone log_faults (λ file. IfNamed (Some name) (MapIsRefused which mode file)) (λ m file. IsReadAs file mode m) name

pub read_ok : (which : Which) (mode : Mode) (name : List ℕ) (m : ReadMap) (old new : SiteState)
    → (IsTrue old.tells → IsReadAs (files_in old name) mode m
    × LoadEnded [] name (files_in old name) old.calls new.calls)
    → IsOfFile (files_in old name) old.tells (λ file. IsReadAs file mode m) → ReadsMap which mode name (Ok m) old new
read_ok which mode name m old new told of =
    went_through (reading which mode name) old new m (λ file. IsReadAs file mode m) told of (λ file read. read)
    (λ file v read refused.
    read_passes (v ≡ NoMap which) (λ error. v ≡ MapRefused which error) mode file m read refused.1)

pub read_refused : (which : Which) (mode : Mode) (name : List ℕ) (e : LogEnding) (old new : SiteState)
    → (IsTrue old.tells → MapIsRefused which mode (files_in old name) e
    × LoadEnded [] name (files_in old name) old.calls new.calls)
    → IsOfFile (files_in old name) old.tells (λ file. MapIsRefused which mode file e)
    → ReadsMap which mode name (Err e) old new
read_refused which mode name e old new told of =
    refused (reading which mode name) old new e (λ file. MapIsRefused which mode file e) told of (λ file why. (refl, why))

pub read_broke : (which : Which) (mode : Mode) (name : List ℕ) (old new : SiteState)
    → (IsTrue old.tells → BrokeInLoad [] name (files_in old name) old.calls new.calls)
    → ReadsMap which mode name (Err (SiteFault MapReadCall)) old new
read_broke which mode name old new told =
    broke (reading which mode name) old new (λ none. none) told

pub read_starved : (which : Which) (mode : Mode) (name : List ℕ) (old new : SiteState)
    → (IsTrue old.tells → StarvedInLoad [] name (files_in old name) old.calls new.calls)
    → ReadsMap which mode name (Err NoMemory) old new
read_starved which mode name old new told =
    starved (reading which mode name) old new told

-- ---- a map that may be named

pub named_ok : (which : Which) (mode : Mode) (name : List ℕ) (m : ReadMap) (old new : SiteState)
    → ReadsMap which mode name (Ok m) old new → ReadsNamed which mode (Some name) (Ok (Some m.tiles)) old new
named_ok which mode name m old new r = record {
  file = r.file;
  calls = r.calls;
  is_own = r.is_own;
  gained = r.gained;
  did = (read_is_map mode r.file m r.did.0, r.did.1);
}

pub named_err : (which : Which) (mode : Mode) (name : List ℕ) (e : LogEnding) (old new : SiteState)
    → ReadsMap which mode name (Err e) old new → ReadsNamed which mode (Some name) (Err e) old new
named_err which mode name e old new r =
    record { file = r.file; calls = r.calls; is_own = r.is_own; gained = r.gained; did = r.did }
