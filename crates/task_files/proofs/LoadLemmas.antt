-- What a load of a mapfile did, whether the site tells or not.
use Rattle.std.proofs.Common.{◌≡◌, ◌≢◌, ℕ, IsTrue, List, [], length, Option, Some, None, Result, Ok, Err, IfOk, IfErr, inl, inr, refl, sym, subst, append-nil}
use Rattle.block_list.specs.declared.status.Status.{Status}
use Rattle.block_list.specs.Map.{extended}
use Rattle.mapfile_text.specs.declared.state.MapState.{MapState}
use Rattle.mapfile_text.specs.declared.read.Mode.TheVariants.{Tight}
use Rattle.mapfile_reader.specs.declared.read.ReadMap.{ReadMap}
use Rattle.mapfile_text.specs.declared.read.MapError.{MapError}
use Rattle.mapfile_text.specs.declared.read.MapError.TheVariants.{NoStatusLine}
use Rattle.crash_site.specs.declared.site.SiteCall.{SiteCall}
use Rattle.crash_site.specs.Files.{File}
use Rattle.crash_site.specs.SiteState.{SiteState, files_in}
use Rattle.mapfile_save.specs.MapNames.{MapNames}
use Rattle.mapfile_resume.specs.Resuming.{LoadEnded, StarvedInLoad, BrokeAsResumed, IsReadAs, IsRefusedFor, IsLikeNone, NoFile, Silent, IsResumeCall, IsOfFile}
use Rattle.mapfile_save.specs.Loading.{barrier_calls}
use Rattle.mapfile_resume.proofs.AnswerLemmas.{read_is_not_refused, none_says_nothing}
use Rattle.rescue_rules.specs.Start.{IsFresh, StandsFor, AsNone, Stands}
use Rattle.program_promise.proofs.LoadedLemmas.{LoadPart, resumes, Resumed, read_stands, went_through, starved, starved_after, resume_refused, resume_broke}
use Rattle.task_files.specs.declared.ending.Ending.{Ending}
use Rattle.task_files.specs.declared.ending.Ending.TheVariants.{MapRefused, SiteFault, NoMemory}
use Rattle.task_files.specs.declared.ending.Which.TheVariants.{RunMap}
use Rattle.task_files.specs.declared.load.LoadedMap.{LoadedMap}
use Rattle.task_files.specs.Refusals.{MapfileRefused}
use Rattle.task_files.specs.Work.{rescue_faults}
use Rattle.task_files.specs.Steps.{StartsAs, Loads}
use Rattle.task_files.proofs.ListingLemmas.{none_lists, map_lists}

-- a mapfile that says nothing, or isn't there, stands for an input that wasn't tried
none_stands : (file : Option File) (end : ℕ) (map : List Status) (state : Option MapState) → IsLikeNone file
    → IsFresh end map state → Stands file end map state
none_stands file end map state (NoFile none) fresh =
    let P : Option File → Type 0 = λ f. StandsFor f end map state in
    record { stands = subst P (sym none) fresh }
none_stands file end map state (Silent there is within blank) fresh =
    let P : Option File → Type 0 = λ f. StandsFor f end map state in
    record { stands = subst P (sym is) (AsNone blank fresh) }

-- what a rescue begins with after a mapfile that says nothing, and after a map
none_starts : (file : Option File) (end : ℕ) (start : LoadedMap) → IsLikeNone file
    → IsFresh end start.tiles.statuses start.state → (start.first ≡ 0) × (start.listed_end ≡ 0) → StartsAs end start file
none_starts file end start none fresh lists = record {
  stands = none_stands file end start.tiles.statuses start.state none fresh;
  lists = none_lists file start.first start.listed_end none lists.0 lists.1;
}

map_starts : (file : Option File) (end : ℕ) (m : ReadMap) (start : LoadedMap) → IsReadAs file Tight m
    → start.tiles.statuses ≡ extended m.tiles.statuses end → start.state ≡ Some m.state
    → (start.first ≡ m.first) × (start.listed_end ≡ length m.tiles.statuses) → StartsAs end start file
map_starts file end m start read extends shows lists =
    record {
      stands = read_stands file end m start.tiles.statuses start.state read extends shows;
      lists = map_lists file m start.first start.listed_end read lists.0 lists.1;
    }

-- a rescue resumes its mapfile: it begins with what the mapfile stands for
abbrev loading : MapNames → (end : ℕ) → LoadPart Ending LoadedMap
loading names end = resumes rescue_faults MapfileRefused (StartsAs end) names

-- the mapfile says nothing
pub fresh_loads : (names : MapNames) (end : ℕ) (r : Result LoadedMap Ending) (old new : SiteState) → Resumed names IsLikeNone old new
    → IsOfFile (files_in old names.map) old.tells IsLikeNone
    → IfOk r (λ start. IsFresh end start.tiles.statuses start.state)
    → IfOk r (λ start. (start.first ≡ 0) × (start.listed_end ≡ 0)) → IfErr r (λ e. e ≡ NoMemory)
    → Loads (Some names.map) end r old new
fresh_loads names end (Ok start) old new told of fresh lists starved =
    went_through (loading names end) old new start IsLikeNone told of
    (λ file none. none_starts file end start none fresh lists)
    (λ file v none refused. refused.2 (none_says_nothing file Tight refused.0 none refused.1))
fresh_loads names end (Err v) old new told of fresh lists starved =
    starved_after (loading names end) old new v IsLikeNone told of starved

-- it is a map
pub map_loads : (names : MapNames) (end : ℕ) (m : ReadMap) (r : Result LoadedMap Ending) (old new : SiteState)
    → Resumed names (λ file. IsReadAs file Tight m) old new
    → IsOfFile (files_in old names.map) old.tells (λ file. IsReadAs file Tight m)
    → IfOk r (λ start. start.tiles.statuses ≡ extended m.tiles.statuses end) → IfOk r (λ start. start.state ≡ Some m.state)
    → IfOk r (λ start. (start.first ≡ m.first) × (start.listed_end ≡ length m.tiles.statuses))
    → IfErr r (λ e. e ≡ NoMemory) → Loads (Some names.map) end r old new
map_loads names end m (Ok start) old new told of extends shows lists starved =
    went_through (loading names end) old new start (λ file. IsReadAs file Tight m) told of
    (λ file read. map_starts file end m start read extends shows lists)
    (λ file v read refused. read_is_not_refused file Tight m refused.0 read refused.1)
map_loads names end m (Err v) old new told of extends shows lists starved =
    starved_after (loading names end) old new v (λ file. IsReadAs file Tight m) told of starved

-- it is refused
pub refused_loads : (names : MapNames) (end : ℕ) (error : MapError) (old new : SiteState)
    → (IsTrue old.tells → IsRefusedFor (files_in old names.map) Tight error × (error ≢ NoStatusLine)
    × LoadEnded (barrier_calls names) names.map (files_in old names.map) old.calls new.calls)
    → IsOfFile (files_in old names.map) old.tells (λ file. IsRefusedFor file Tight error × (error ≢ NoStatusLine))
    → Loads (Some names.map) end (Err (MapRefused RunMap error)) old new
refused_loads names end error old new told of =
    resume_refused rescue_faults MapfileRefused (StartsAs end) names old new (MapRefused RunMap error) error told of
    (λ file why says. (error, why, says, refl))

-- memory ran out as it was read
pub starved_loads : (names : MapNames) (end : ℕ) (old new : SiteState)
    → (IsTrue old.tells → StarvedInLoad (barrier_calls names) names.map (files_in old names.map) old.calls new.calls)
    → Loads (Some names.map) end (Err NoMemory) old new
starved_loads names end old new told = starved (loading names end) old new told

-- a call failed
pub broken_loads : (names : MapNames) (end : ℕ) (call : SiteCall) (old new : SiteState) → IsResumeCall call
    → (IsTrue old.tells → BrokeAsResumed names (files_in old names.map) call old.calls new.calls)
    → Loads (Some names.map) end (Err (SiteFault call None)) old new
broken_loads names end call old new is told =
    resume_broke rescue_faults MapfileRefused (StartsAs end) names old new call is told

-- without a mapfile there is nothing to load
pub none_loads : (end : ℕ) (r : Result LoadedMap Ending) (site : SiteState)
    → IfOk r (λ start. IsFresh end start.tiles.statuses start.state)
    → IfOk r (λ start. (start.first ≡ 0) × (start.listed_end ≡ 0)) → IfErr r (λ e. e ≡ NoMemory)
    → Loads None end r site site
none_loads end (Ok start) site fresh lists starved = record {
  file = None;
  calls = [];
  is_own = λ t. refl;
  gained = λ t. sym (append-nil site.calls);
  did = (
    none_starts None end start (NoFile refl) fresh lists,
    ([], refl, (refl, ((λ v refused. let no : None ≡ Some refused.1.there = refused.1.is in cc), refl))),
  );
}
none_loads end (Err v) site fresh lists starved =
    subst (λ (x : Ending). Loads None end (Err x) site site) (sym starved)
    (record {
      file = None;
      calls = [];
      is_own = λ t. refl;
      gained = λ t. sym (append-nil site.calls);
      did = inr ([], refl, inl (refl, record { opens = refl; gain = record { calls = refl; reads = refl; times = refl } }));
    })
