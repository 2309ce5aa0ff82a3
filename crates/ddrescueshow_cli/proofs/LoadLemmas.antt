-- What the read of a map did that is named, whether the site tells or not.
use Rattle.std.proofs.Common.{◌≡◌, ℕ, true, false, IsTrue, List, [], Option, Some, None, Ok, Err, refl, sym, inl, inr, append-nil}
use Rattle.block_list.specs.Tiled.{Tiled}
use Rattle.mapfile_text.specs.declared.read.Mode.{Mode}
use Rattle.mapfile_reader.specs.declared.read.ReadMap.{ReadMap}
use Rattle.crash_site.specs.Files.{File}
use Rattle.crash_site.specs.SiteState.{SiteState, files_in}
use Rattle.mapfile_resume.specs.declared.named.NamedFault.{NamedFault}
use Rattle.mapfile_resume.specs.declared.named.NamedFault.TheVariants.{ReadFailed, Absent, Refused as NotRead, NoMemory as Starving}
use Rattle.mapfile_resume.specs.Named.{IsMapOf, LoadsNamed, IsNamedAs, NamedCounts}
use Rattle.mapfile_resume.specs.Resuming.{IsReadAs, IsOfFile, LoadEnded}
use Rattle.rescue_console.specs.ConsoleState.{ConsoleState}
use Rattle.program_promise.specs.Causes.{Changed, none_rises}
use Rattle.program_promise.proofs.LoadedLemmas.{AnswersNamed, reads_alone, read_passes, read_is_map, went_through, named_stopped as stopped}
use Rattle.program_promise.specs.World.{handed}
use Rattle.ddrescueshow_cli.specs.declared.ending.Which.{Which}
use Rattle.ddrescueshow_cli.specs.declared.ending.ShowEnding.{ShowEnding}
use Rattle.ddrescueshow_cli.specs.declared.ending.ShowEnding.TheVariants.{NoMap, MapRefused}
use Rattle.ddrescueshow_cli.specs.Answers.{refusal_of}
use Rattle.ddrescueshow_cli.specs.Work.{MapIsRefused, show_faults}
use Rattle.ddrescueshow_cli.specs.Steps.{ReadCause, ReadsMap, ReadsNamed}

-- the picture takes the statuses of the map
abbrev IsMap : Mode → Tiled → Option File → Type 0
IsMap mode tiles file = IsMapOf file mode tiles.statuses

pub map_read : (which : Which) (mode : Mode) (name : List ℕ) (m : ReadMap) (old new : SiteState)
    → (IsTrue old.tells → IsReadAs (files_in old name) mode m × LoadEnded [] name (files_in old name) old.calls new.calls)
    → IsOfFile (files_in old name) old.tells (λ file. IsReadAs file mode m)
    → ReadsMap which mode name (Ok m.tiles) old new
map_read which mode name m old new told of =
    went_through (reads_alone show_faults (MapIsRefused which mode (Some name)) (IsMap mode) name) old new m.tiles
    (λ file. IsReadAs file mode m) told of (λ file read. read_is_map mode file m read)
    (λ file v read refused. read_passes (v ≡ NoMap which) (λ error. v ≡ MapRefused which error) mode file m read refused.1)

-- how the faults of a load are answered
answers : (which : Which) (mode : Mode) (name : List ℕ)
    → AnswersNamed show_faults (MapIsRefused which mode (Some name)) mode (refusal_of which)
answers which mode name = record {
  broke = refl;
  starved = refl;
  absent = λ file none. (refl, inl (none, refl));
  refused = λ error file why. (refl, inr (error, why, refl));
}

-- if a load stopped, by its fault
pub map_stopped : (which : Which) (mode : Mode) (name : List ℕ) (fault : NamedFault) (old new : SiteState)
    → (IsTrue old.tells → LoadsNamed name mode (files_in old name) (Err fault) old.calls new.calls)
    → IsOfFile (files_in old name) old.tells (IsNamedAs mode (Err fault))
    → ReadsMap which mode name (Err (refusal_of which fault)) old new
map_stopped which mode name fault old new told of =
    stopped show_faults (MapIsRefused which mode (Some name)) (IsMap mode) name old new mode (refusal_of which) fault
    (answers which mode name) told of

-- and its cause
unchanged_by : (old new : SiteState) → new.faults ≡ old.faults → (console : ConsoleState)
    → Changed none_rises (handed old console) (handed new console)
unchanged_by old new same console =
    record { opens = refl; reads = refl; calls = same; takes = refl; puts = refl }

pub stop_cause : (which : Which) (fault : NamedFault) (old new : SiteState)
    → NamedCounts (Err fault) old.faults new.faults → ReadCause (refusal_of which fault) old new
stop_cause which ReadFailed old new counts = record {
  cause = λ console. record { opens = refl; reads = refl; calls = counts; takes = refl; puts = refl };
  unput = λ terminal c found console. refl;
  also = refl;
}
stop_cause which (NotRead error) old new counts =
    record { cause = unchanged_by old new counts.0; unput = λ terminal c found console. refl; also = counts.1 }
stop_cause which _ old new counts =
    record { cause = unchanged_by old new counts; unput = λ terminal c found console. refl; also = tt }

-- no map is named
pub unnamed : (which : Which) (mode : Mode) (site : SiteState) → ReadsNamed which mode None (Ok None) site site
unnamed which mode site = record {
  file = None;
  calls = [];
  is_own = λ tells. refl;
  gained = λ tells. sym (append-nil site.calls);
  did = (refl, (refl, ((λ v refused. let no : false ≡ true = refused.0 in cc), refl)));
}

-- one is named
pub named_read : (which : Which) (mode : Mode) (name : List ℕ) (tiles : Tiled) (old new : SiteState)
    → ReadsMap which mode name (Ok tiles) old new → ReadsNamed which mode (Some name) (Ok (Some tiles)) old new
named_read which mode name tiles old new r =
    record { file = r.file; calls = r.calls; is_own = r.is_own; gained = r.gained; did = r.did }

pub named_stopped : (which : Which) (mode : Mode) (name : List ℕ) (e : ShowEnding) (old new : SiteState)
    → ReadsMap which mode name (Err e) old new → ReadsNamed which mode (Some name) (Err e) old new
named_stopped which mode name e old new r =
    record { file = r.file; calls = r.calls; is_own = r.is_own; gained = r.gained; did = r.did }
