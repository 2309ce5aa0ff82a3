-- What the read of a map did that an option names, whether the site tells or not.
use Rattle.std.proofs.Common.{◌≡◌, ℕ, true, false, IsTrue, List, [], Option, Some, None, Ok, Err, refl, sym, inl, inr, append-nil}
use Rattle.mapfile_text.specs.declared.read.Mode.{Mode}
use Rattle.mapfile_reader.specs.declared.read.ReadMap.{ReadMap}
use Rattle.crash_site.specs.Files.{File}
use Rattle.crash_site.specs.SiteState.{SiteState, files_in}
use Rattle.mapfile_resume.specs.declared.named.NamedFault.{NamedFault}
use Rattle.mapfile_resume.specs.declared.named.NamedFault.TheVariants.{ReadFailed, Absent, Refused as NotRead, NoMemory as Starving}
use Rattle.mapfile_resume.specs.Named.{LoadsNamed, IsNamedAs, NamedCounts}
use Rattle.mapfile_resume.specs.Resuming.{IsReadAs, IsOfFile, LoadEnded}
use Rattle.program_promise.proofs.LoadedLemmas.{AnswersNamed, reads_alone, read_passes, read_is_map, went_through, named_stopped as stopped}
use Rattle.task_files.specs.declared.ending.Ending.{Ending}
use Rattle.task_files.specs.declared.ending.Which.{Which}
use Rattle.task_files.specs.declared.ending.Ending.TheVariants.{NoMap, MapRefused}
use Rattle.task_files.specs.Refusals.{NamedMapRefused}
use Rattle.task_files.specs.Work.{rescue_faults, IfNamed}
use Rattle.task_files.specs.Steps.{refusal_of, HasTiles, MapCause, ReadsMap}

-- what is refused of the file of a name
abbrev Refuses : Which → Mode → List ℕ → Option File → Ending → Type 0
Refuses which mode name file e = IfNamed (Some name) (NamedMapRefused which mode file) e

pub named_read : (which : Which) (mode : Mode) (name : List ℕ) (m : ReadMap) (old new : SiteState)
    → (IsTrue old.tells → IsReadAs (files_in old name) mode m × LoadEnded [] name (files_in old name) old.calls new.calls)
    → IsOfFile (files_in old name) old.tells (λ file. IsReadAs file mode m)
    → ReadsMap which mode (Some name) (Ok (Some m.tiles)) old new
named_read which mode name m old new told of =
    went_through (reads_alone rescue_faults (Refuses which mode name) (HasTiles (Some name) mode) name) old new
    (Some m.tiles) (λ file. IsReadAs file mode m) told of (λ file read. read_is_map mode file m read)
    (λ file v read refused. read_passes (v ≡ NoMap which) (λ error. v ≡ MapRefused which error) mode file m read refused.1)

-- how the faults of a load are answered
answers : (which : Which) (mode : Mode) (name : List ℕ)
    → AnswersNamed rescue_faults (Refuses which mode name) mode (refusal_of which)
answers which mode name = record {
  broke = refl;
  starved = refl;
  absent = λ file none. (refl, inl (none, refl));
  refused = λ error file why. (refl, inr (error, why, refl));
}

-- where a load stopped, by its fault
pub named_stopped : (which : Which) (mode : Mode) (name : List ℕ) (fault : NamedFault) (old new : SiteState)
    → (IsTrue old.tells → LoadsNamed name mode (files_in old name) (Err fault) old.calls new.calls)
    → IsOfFile (files_in old name) old.tells (IsNamedAs mode (Err fault))
    → ReadsMap which mode (Some name) (Err (refusal_of which fault)) old new
named_stopped which mode name fault old new told of =
    stopped rescue_faults (Refuses which mode name) (HasTiles (Some name) mode) name old new mode (refusal_of which) fault
    (answers which mode name) told of

-- and its cause
pub named_cause : (which : Which) (fault : NamedFault) (faults faults' : ℕ) → NamedCounts (Err fault) faults faults'
    → MapCause which (refusal_of which fault) faults faults'
named_cause which ReadFailed faults faults' counts = inr (inr (inr (refl, counts)))
named_cause which Absent faults faults' counts = inr (inl (refl, counts))
named_cause which (NotRead error) faults faults' counts = inr (inr (inl (error, refl, counts.1, counts.0)))
named_cause which Starving faults faults' counts = inl (refl, counts)

-- no map was named
pub unnamed : (which : Which) (mode : Mode) (site : SiteState) → ReadsMap which mode None (Ok None) site site
unnamed which mode site = record {
  file = None;
  calls = [];
  is_own = λ tells. refl;
  gained = λ tells. sym (append-nil site.calls);
  did = (refl, (refl, ((λ v refused. let no : false ≡ true = refused.0 in cc), refl)));
}
