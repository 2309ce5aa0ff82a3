-- What a load of a mapfile did, whether the site tells or not.
use Rattle.std.proofs.Common.{◌≡◌, ◌≢◌, ℕ, IsTrue, Option, Some, Result, Ok, Err, IfOk, IfErr, inl, inr, refl, ap}
use Rattle.block_list.specs.Map.{extended}
use Rattle.mapfile_text.specs.declared.read.Mode.TheVariants.{Tight}
use Rattle.mapfile_reader.specs.declared.read.ReadMap.{ReadMap}
use Rattle.mapfile_text.specs.declared.read.MapError.{MapError}
use Rattle.mapfile_text.specs.declared.read.MapError.TheVariants.{NoStatusLine}
use Rattle.crash_site.specs.declared.site.SiteCall.{SiteCall}
use Rattle.crash_site.specs.Files.{File}
use Rattle.crash_site.specs.SiteState.{SiteState, files_in}
use Rattle.mapfile_save.specs.MapNames.{MapNames}
use Rattle.mapfile_resume.specs.Resuming.{LoadEnded, StarvedInLoad, BrokeAsResumed, IsReadAs, IsRefusedFor, IsLikeNone, IsResumeCall, IsOfFile}
use Rattle.mapfile_save.specs.Loading.{barrier_calls}
use Rattle.mapfile_resume.proofs.AnswerLemmas.{read_is_not_refused, none_is_not_read}
use Rattle.program_promise.proofs.LoadedLemmas.{LoadPart, resumes, Resumed, read_stands, went_through, refused, starved, starved_after, resume_refused, resume_broke}
use Rattle.ddrescueverify_cli.specs.declared.ending.VerifyEnding.{VerifyEnding}
use Rattle.ddrescueverify_cli.specs.declared.ending.VerifyEnding.TheVariants.{NoMap, MapRefused, SiteFault, NoMemory}
use Rattle.ddrescueverify_cli.specs.declared.ending.Which.TheVariants.{RunMap}
use Rattle.ddrescueverify_cli.specs.declared.open.LoadedMap.{LoadedMap}
use Rattle.ddrescueverify_cli.specs.Refusals.{MapfileRefused}
use Rattle.ddrescueverify_cli.specs.Work.{verify_faults}
use Rattle.ddrescueverify_cli.specs.Steps.{StandsAs, Loads}

-- a comparison resumes its mapfile: it begins with what the mapfile stands for
abbrev loading : MapNames → (end : ℕ) → LoadPart VerifyEnding LoadedMap
loading names end = resumes verify_faults MapfileRefused (StandsAs end) names

-- the mapfile isn't there, or says nothing
pub none_loads : (names : MapNames) (end : ℕ) (old new : SiteState) → Resumed names IsLikeNone old new
    → IsOfFile (files_in old names.map) old.tells IsLikeNone → Loads names.map end (Err NoMap) old new
none_loads names end old new told of =
    refused (loading names end) old new NoMap IsLikeNone told of (λ file none. inl (none, refl))

-- a map isn't refused
map_passes : (m : ReadMap) (file : Option File) (v : VerifyEnding) → IsReadAs file Tight m → MapfileRefused file v → ⊥
map_passes m file v read (inl none) = none_is_not_read file Tight m none.0 read
map_passes m file v read (inr refused) = read_is_not_refused file Tight m refused.0 read refused.1

-- it is a map
pub map_loads : (names : MapNames) (end : ℕ) (m : ReadMap) (r : Result LoadedMap VerifyEnding) (old new : SiteState)
    → Resumed names (λ file. IsReadAs file Tight m) old new
    → IsOfFile (files_in old names.map) old.tells (λ file. IsReadAs file Tight m)
    → IfOk r (λ now. now.tiles.statuses ≡ extended m.tiles.statuses end) → IfOk r (λ now. now.state ≡ m.state)
    → IfErr r (λ e. e ≡ NoMemory) → Loads names.map end r old new
map_loads names end m (Ok loaded) old new told of extends shows starved =
    went_through (loading names end) old new loaded (λ file. IsReadAs file Tight m) told of
    (λ file read. read_stands file end m loaded.tiles.statuses (Some loaded.state) read extends (ap Some shows))
    (map_passes m)
map_loads names end m (Err v) old new told of extends shows starved =
    starved_after (loading names end) old new v (λ file. IsReadAs file Tight m) told of starved

-- it is refused
pub refused_loads : (names : MapNames) (end : ℕ) (error : MapError) (old new : SiteState)
    → (IsTrue old.tells → IsRefusedFor (files_in old names.map) Tight error × (error ≢ NoStatusLine)
    × LoadEnded (barrier_calls names) names.map (files_in old names.map) old.calls new.calls)
    → IsOfFile (files_in old names.map) old.tells (λ file. IsRefusedFor file Tight error × (error ≢ NoStatusLine))
    → Loads names.map end (Err (MapRefused RunMap error)) old new
refused_loads names end error old new told of =
    resume_refused verify_faults MapfileRefused (StandsAs end) names old new (MapRefused RunMap error) error told of
    (λ file why says. inr (error, why, says, refl))

-- memory ran out as it was read
pub starved_loads : (names : MapNames) (end : ℕ) (old new : SiteState)
    → (IsTrue old.tells → StarvedInLoad (barrier_calls names) names.map (files_in old names.map) old.calls new.calls)
    → Loads names.map end (Err NoMemory) old new
starved_loads names end old new told = starved (loading names end) old new told

-- a call failed
pub broken_loads : (names : MapNames) (end : ℕ) (call : SiteCall) (old new : SiteState) → IsResumeCall call
    → (IsTrue old.tells → BrokeAsResumed names (files_in old names.map) call old.calls new.calls)
    → Loads names.map end (Err (SiteFault call)) old new
broken_loads names end call old new is told =
    resume_broke verify_faults MapfileRefused (StandsAs end) names old new call is told
