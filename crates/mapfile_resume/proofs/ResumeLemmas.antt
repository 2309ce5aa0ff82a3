-- What a resume answers, by what its mapfile was read as after the barrier.
use Rattle.std.proofs.Common.{◌≡◌, ℕ, Bool, IsTrue, List, [], Option, Some, None, Result, Ok, Err, refl, ap, ◌∙◌, subst, inl, inr}
use Rattle.mapfile_text.specs.declared.read.Mode.{Mode}
use Rattle.mapfile_text.specs.declared.read.Mode.TheVariants.{Tight}
use Rattle.mapfile_reader.specs.declared.read.ReadMap.{ReadMap}
use Rattle.mapfile_text.specs.declared.read.MapError.{MapError}
use Rattle.mapfile_text.specs.declared.read.MapError.TheVariants.{NoStatusLine, TooLong}
use Rattle.crash_site.specs.declared.site.SiteCall.{SiteCall}
use Rattle.crash_site.specs.declared.site.SiteCall.TheVariants.{MapRead}
use Rattle.crash_site.specs.Files.{File}
use Rattle.crash_site.specs.Calls.{Entry}
use Rattle.crash_site.specs.CallsMade.{Made}
use Rattle.crash_site.specs.Disk.{at_rest, disk_after}
use Rattle.crash_site.specs.SiteState.{SiteState, files_in}
use Rattle.crash_site.specs.SiteChanges.{Keeps, Makes}
use Rattle.mapfile_resume.specs.declared.load.ResumeFault.{ResumeFault}
use Rattle.mapfile_resume.specs.declared.load.ResumeFault.TheVariants.{Site, Map as Refused, NoMemory}
use Rattle.mapfile_save.specs.MapNames.{MapNames}
use Rattle.mapfile_save.specs.SaveStops.{disk_of}
use Rattle.mapfile_resume.specs.Resuming.{IsRefusedFor, IsLikeNone, NoFile, Silent, LoadEnded, LoadAnswers, refused_as, resumed_of, Resumes, NothingPending, SettlesAll, IsOfFile, ReadsAs, ResumesAs}
use Rattle.mapfile_save.specs.Loading.{barrier_calls}
use Rattle.mapfile_save.proofs.CallLemmas.{made_more, broke_back}
use Rattle.mapfile_text.proofs.MapLemmas.{fault_is_blank}
use Rattle.mapfile_resume.proofs.BarrierLemmas.{idle_load, made_idle, broke_idle, nothing_pending, barrier_reads}

-- a mapfile that is refused since it has no status line says nothing
pub says_nothing : (file : Option File) (mode : Mode) → IsRefusedFor file mode NoStatusLine → IsLikeNone file
says_nothing file mode r =
    elim r.why [
      | inl x ↦ let no : NoStatusLine ≡ TooLong = x.0 in absurd (cc)
      | inr x ↦ Silent r.there r.is x.0 (fault_is_blank r.there.bytes mode x.1)
    ]

-- the calls of a load, after the barrier
load_after_barrier : (names : MapNames) (file : Option File) (calls mid calls' : List Entry) → Made (barrier_calls names) calls mid
    → LoadEnded [] names.map file mid calls' → LoadEnded (barrier_calls names) names.map file calls calls'
load_after_barrier names file calls mid calls' made l = (l.0, l.1, made_more calls mid calls' (barrier_calls names) l.0 made l.2)

-- a mapfile that was refused
resumes_refused : (names : MapNames) (file : Option File) (e : MapError) (calls mid calls' : List Entry) → Made (barrier_calls names) calls mid
    → IsRefusedFor file Tight e × LoadEnded [] names.map file mid calls' → Resumes names file (refused_as e) calls calls'
resumes_refused names file NoStatusLine calls mid calls' made r = (says_nothing file Tight r.0, load_after_barrier names file calls mid calls' made r.1)
resumes_refused names file _ calls mid calls' made r = (r.0, λ is. cc, load_after_barrier names file calls mid calls' made r.1)

load_resumes : (names : MapNames) (file : Option File) (read : Result (Option ReadMap) ResumeFault) (calls mid calls' : List Entry)
    → Made (barrier_calls names) calls mid → LoadAnswers names.map Tight file read mid calls' → Resumes names file (resumed_of read) calls calls'
load_resumes names file (Ok None) calls mid calls' made l = (NoFile l.0, load_after_barrier names file calls mid calls' made l.1)
load_resumes names file (Ok (Some m)) calls mid calls' made l = (l.0, load_after_barrier names file calls mid calls' made l.1)
load_resumes names file (Err (Site call)) calls mid calls' made l =
    inr (l.0, (l.1.0, l.1.1, broke_back MapRead (barrier_calls names) l.1.0 calls mid calls' made l.1.2))
load_resumes names file (Err (Refused e)) calls mid calls' made l = resumes_refused names file e calls mid calls' made l
load_resumes names file (Err NoMemory) calls mid calls' made l = (l.0, l.1, made_more calls mid calls' (barrier_calls names) l.0 made l.2)

-- what is told of a resume
pub resumed_told : (names : MapNames) (read : Result (Option ReadMap) ResumeFault) (old mid new : SiteState) → IsTrue old.tells → Keeps old mid
    → Makes (barrier_calls names) old mid → (IsTrue mid.tells → LoadAnswers names.map Tight (files_in mid names.map) read mid.calls new.calls)
    → Resumes names (files_in old names.map) (resumed_of read) old.calls new.calls
resumed_told names read old mid new tells keeps made l =
    let reads : files_in mid names.map ≡ files_in old names.map = ap (λ f. f names.map) (barrier_reads names old mid tells keeps made) in
    load_resumes names (files_in old names.map) read old.calls mid.calls new.calls (made.made tells)
    (subst (λ file. LoadAnswers names.map Tight file read mid.calls new.calls) reads (l (rw keeps.tells tells)))

-- a load leaves the disk
load_idle : (name : List ℕ) (mode : Mode) (file : Option File) (read : Result (Option ReadMap) ResumeFault) (mid new : SiteState)
    → LoadAnswers name mode file read mid.calls new.calls → disk_after (at_rest mid.start) new.calls ≡ disk_after (at_rest mid.start) mid.calls
load_idle name mode file (Ok None) mid new l =
    made_idle (at_rest mid.start) l.1.0 mid.calls new.calls (idle_load name file l.1.0 l.1.1.begins) l.1.2
load_idle name mode file (Err (Site call)) mid new l =
    broke_idle (at_rest mid.start) MapRead l.1.0 mid.calls new.calls (idle_load name file l.1.0 l.1.1) l.1.2
load_idle name mode file (Err NoMemory) mid new l =
    made_idle (at_rest mid.start) l.0 mid.calls new.calls (idle_load name file l.0 l.1) l.2
load_idle name mode file _ mid new l =
    made_idle (at_rest mid.start) l.1.0 mid.calls new.calls (idle_load name file l.1.0 l.1.1.begins) l.1.2

-- where nothing is pending, it is so for each answer
refused_settles : (names : MapNames) (e : MapError) (old new : SiteState) → NothingPending names (disk_of old) (disk_of new)
    → SettlesAll names (refused_as e) old new
refused_settles names NoStatusLine old new h = h
refused_settles names _ old new h = h

answer_settles : (names : MapNames) (read : Result (Option ReadMap) ResumeFault) (old new : SiteState)
    → NothingPending names (disk_of old) (disk_of new) → SettlesAll names (resumed_of read) old new
answer_settles names (Ok None) old new h = h
answer_settles names (Err (Site call)) old new h = λ is. h
answer_settles names (Err (Refused e)) old new h = refused_settles names e old new h
answer_settles names _ old new h = h

-- nothing is pending after a resume
pub resumed_settled : (names : MapNames) (read : Result (Option ReadMap) ResumeFault) (old mid new : SiteState) → IsTrue old.tells → Keeps old mid
    → Keeps mid new → Makes (barrier_calls names) old mid
    → (IsTrue mid.tells → LoadAnswers names.map Tight (files_in mid names.map) read mid.calls new.calls)
    → SettlesAll names (resumed_of read) old new
resumed_settled names read old mid new tells keeps keeps' made l =
    answer_settles names read old new
    (nothing_pending names old mid new tells keeps keeps' made
    (load_idle names.map Tight (files_in mid names.map) read mid new (l (rw keeps.tells tells))))

-- a file that is read so is resumed so
refused_so : (file : Option File) (e : MapError) → IsRefusedFor file Tight e → ResumesAs (refused_as e) file
refused_so file NoStatusLine r = says_nothing file Tight r
refused_so file _ r = (r, λ is. cc)

answered_so : (file : Option File) (read : Result (Option ReadMap) ResumeFault) → ReadsAs Tight read file → ResumesAs (resumed_of read) file
answered_so file (Ok None) is = NoFile is
answered_so file (Ok (Some m)) is = is
answered_so file (Err (Site call)) is = tt
answered_so file (Err (Refused e)) is = refused_so file e is
answered_so file (Err NoMemory) is = tt

pub resumed_read : (names : MapNames) (read : Result (Option ReadMap) ResumeFault) (old mid : SiteState) → Keeps old mid
    → Makes (barrier_calls names) old mid → IsOfFile (files_in mid names.map) mid.tells (ReadsAs Tight read)
    → IsOfFile (files_in old names.map) old.tells (ResumesAs (resumed_of read))
resumed_read names read old mid keeps made r = record {
  file = r.file;
  is_own = λ tells.
      r.is_own (rw keeps.tells tells) ∙ ap (λ f. f names.map) (barrier_reads names old mid tells keeps made);
  holds = answered_so r.file read r.holds;
}

pub unresumed : (own : Option File) (tells : Bool) (call : SiteCall) → IsOfFile own tells (ResumesAs (Err (Site call)))
unresumed own tells call = record { file = own; is_own = λ told. refl; holds = tt }
