-- What a load of a file did in some work, whatever the work answers, what it refuses, and what it makes of a map.
use Rattle.std.proofs.Common.{◌≡◌, ◌≢◌, ◌⊎◌, ℕ, IsTrue, List, [], ◌∷◌, ◌++◌, map, Option, Some, None, Result, Ok, Err, refl, sym, ap, ◌∙◌, inl, inr, subst}
use Rattle.std.proofs.lemmas.List.{map-append}
use Rattle.block_list.specs.declared.status.Status.{Status}
use Rattle.block_list.specs.Map.{extended}
use Rattle.mapfile_text.specs.declared.state.MapState.{MapState}
use Rattle.mapfile_text.specs.declared.read.Mode.{Mode}
use Rattle.mapfile_text.specs.declared.read.Mode.TheVariants.{Tight}
use Rattle.mapfile_reader.specs.declared.read.ReadMap.{ReadMap}
use Rattle.mapfile_text.specs.declared.read.MapError.{MapError}
use Rattle.mapfile_text.specs.declared.read.MapError.TheVariants.{NoStatusLine}
use Rattle.crash_site.specs.declared.site.SiteCall.{SiteCall}
use Rattle.crash_site.specs.declared.site.SiteCall.TheVariants.{MapRead as MapReadCall}
use Rattle.crash_site.specs.Files.{File}
use Rattle.crash_site.specs.Calls.{Call, Entry, Done as Returned}
use Rattle.crash_site.specs.CallsMade.{BrokeAt}
use Rattle.crash_site.specs.SiteState.{SiteState, files_in}
use Rattle.mapfile_resume.specs.declared.named.NamedFault.{NamedFault}
use Rattle.mapfile_resume.specs.declared.named.NamedFault.TheVariants.{ReadFailed, Absent, Refused, NoMemory}
use Rattle.mapfile_save.specs.MapNames.{MapNames}
use Rattle.mapfile_resume.specs.Named.{IsMapOf, LoadsNamed, IsNamedAs}
use Rattle.mapfile_save.specs.Saving.{IsNameIn}
use Rattle.mapfile_resume.specs.Resuming.{IsOfFile, IsReadAs, IsRefusedFor, IsResumeCall, LoadEnded, StarvedInLoad, BrokeInLoad, BrokeAsResumed}
use Rattle.mapfile_save.specs.Loading.{barrier_calls}
use Rattle.mapfile_resume.proofs.AnswerLemmas.{read_is_not_refused}
use Rattle.rescue_rules.specs.Start.{StandsFor, AsMap, Stands}
use Rattle.program_promise.specs.Work.{Faults, WorkStep, Look, Make, Read}
use Rattle.program_promise.specs.Parts.{Did, DidPart}
use Rattle.program_promise.proofs.GainLemmas.{MayGain, may_gain}
use Rattle.program_promise.proofs.BarrierLemmas.{in_load, in_barrier, no_read}
use Rattle.program_promise.proofs.LoadLemmas.{Ended, ended, RanOut, ran_out, BrokeOff, broke_off, read_through, read_refused, read_broke, read_starved}

-- ---- what a file is that was read

-- it isn't refused: it is there, and is a map
pub read_passes : (X : Type 0) (Why : MapError → Type 0) (mode : Mode) (file : Option File) (m : ReadMap)
    → IsReadAs file mode m
    → ((file ≡ None) × X) ⊎ ((error : MapError) × IsRefusedFor file mode error × Why error) → ⊥
read_passes X Why mode file m read (inl missing) = let no : None ≡ Some read.there = sym missing.0 ∙ read.is in cc
read_passes X Why mode file m read (inr refused) = read_is_not_refused file mode m refused.0 read refused.1

-- it has these statuses
pub read_is_map : (mode : Mode) (file : Option File) (m : ReadMap) → IsReadAs file mode m
    → IsMapOf file mode m.tiles.statuses
read_is_map mode file m read = record {
  there = read.there;
  is = read.is;
  within = read.within;
  shown = m.state;
  first = m.first;
  listed = m.listed;
  reads = read.reads;
}

-- it stands for this map
pub read_stands : (file : Option File) (end : ℕ) (m : ReadMap) (statuses : List Status) (state : Option MapState)
    → IsReadAs file Tight m → statuses ≡ extended m.tiles.statuses end → state ≡ Some m.state
    → Stands file end statuses state
read_stands file end m statuses state read extends shows =
    let P : Option File → Type 0 = λ f. StandsFor f end statuses state in
    record {
      stands = subst P (sym read.is) (AsMap (record {
        shown = m.state;
        first = m.first;
        listed = m.listed;
        statuses = m.tiles.statuses;
        reads = read.reads;
        map_is = extends;
        state_is = shows;
      }));
    }

-- ---- a row of calls

-- one of the calls failed, and the rows after them aren't reached
pub broke_first : {E T : Type 0} (f : Faults E) (made : List Call) (more : Option File → List (WorkStep E))
    (own : Option File) (Holds : T → Option File → Type 0) (call : SiteCall) (old new : SiteState)
    → IsNameIn call made → (IsTrue old.tells → BrokeAt call made old.calls new.calls)
    → DidPart f (λ file. Make made ∷ more file) own Holds (Err (f.call call)) old new
broke_first f made more own Holds call old new named told =
    let g : MayGain old.tells call made old.calls new.calls =
    may_gain old.tells call made old.calls new.calls named told in
    record {
      file = own;
      calls = g.more;
      is_own = λ t. refl;
      gained = g.grew;
      did = inl (call, refl, g.broke, record { opens = refl; reads = refl; times = refl });
    }

-- ---- loads

-- a load in some work: how faults are answered, what is refused of the file, what comes of it, the calls before the
-- reads, and the file's name
pub record LoadPart (E T : Type 0) : Type 1 where
  pub faults : Faults E
  pub refuses : Option File → E → Type 0
  pub makes : T → Option File → Type 0
  pub before : List Call
  pub name : List ℕ

-- one without other calls
abbrev pub reads_alone : {E T : Type 0} → Faults E → (Option File → E → Type 0) → (T → Option File → Type 0) → List ℕ
    → LoadPart E T
reads_alone faults refuses makes name =
    record { faults = faults; refuses = refuses; makes = makes; before = []; name = name }

-- one after the barrier
abbrev pub resumes : {E T : Type 0} → Faults E → (Option File → E → Type 0) → (T → Option File → Type 0) → MapNames
    → LoadPart E T
resumes faults refuses makes names = record {
  faults = faults;
  refuses = refuses;
  makes = makes;
  before = barrier_calls names;
  name = names.map;
}

-- the row of the calls before the reads, if there are any
abbrev pub row_before : (E : Type 0) → List Call → List (WorkStep E)
row_before E [] = []
row_before E (c ∷ cs) = Make (c ∷ cs) ∷ []

-- what a load did, by its outcome
abbrev pub Loaded : {E T : Type 0} → LoadPart E T → Result T E → (old new : SiteState) → Type 0
Loaded {E} p result old new =
    DidPart p.faults (λ file. row_before E p.before ++ Read (Some p.name) file ∷ Look (p.refuses file) ∷ [])
    (files_in old p.name) p.makes result old new

-- what rows did, they did after the calls before them
did_after : {E T : Type 0} (f : Faults E) (before : List Call) (rows : List (WorkStep E)) (Holds : T → Type 0)
    (result : Result T E) (calls : List Entry) → Did f rows Holds result calls
    → Did f (row_before E before ++ rows) Holds result (map Returned before ++ calls)
did_after f [] rows Holds result calls did = did
did_after f (c ∷ cs) rows Holds (Ok x) calls did = (did.0, (calls, refl, did.1))
did_after f (c ∷ cs) rows Holds (Err e) calls did = inr (calls, refl, did)

module _ {E T : Type 0} (p : LoadPart E T) (old new : SiteState) where
  -- if the site tells, the file is this, and the load went on to its end
  abbrev pub Told : (Option File → Type 0) → Type 0
  Told Is =
      IsTrue old.tells → Is (files_in old p.name)
      × LoadEnded p.before p.name (files_in old p.name) old.calls new.calls

  -- there is a file that is this
  abbrev pub Of : (Option File → Type 0) → Type 0
  Of Is = IsOfFile (files_in old p.name) old.tells Is

  after : (result : Result T E) (file : Option File) (calls : List Entry)
      → (IsTrue old.tells → file ≡ files_in old p.name)
      → (IsTrue old.tells → new.calls ≡ old.calls ++ (map Returned p.before ++ calls))
      → Did p.faults (Read (Some p.name) file ∷ Look (p.refuses file) ∷ []) (λ x. p.makes x file) result calls
      → Loaded p result old new
  after result file calls is_own gained did = record {
    file = file;
    calls = map Returned p.before ++ calls;
    is_own = is_own;
    gained = gained;
    did = did_after p.faults p.before (Read (Some p.name) file ∷ Look (p.refuses file) ∷ []) (λ x. p.makes x file)
        result calls did;
  }

  in_two : (load : List Call) → (IsTrue old.tells → new.calls ≡ old.calls ++ map Returned (p.before ++ load))
      → IsTrue old.tells → new.calls ≡ old.calls ++ (map Returned p.before ++ map Returned load)
  in_two load gained t = gained t ∙ ap (λ (c : List Entry). old.calls ++ c) (map-append Returned p.before load)

  -- it went through, and this came of it
  pub went_through : (x : T) (Is : Option File → Type 0) → Told Is → Of Is
      → ((file : Option File) → Is file → p.makes x file)
      → ((file : Option File) (v : E) → Is file → p.refuses file v → ⊥) → Loaded p (Ok x) old new
  went_through x Is told of made passes =
      let e : Ended p.before p.name Is old new = ended p.before p.name Is old new told of in
      after (Ok x) e.file (map Returned e.load) e.is_own (in_two e.load e.gained) (
        made e.file e.holds,
        read_through p.faults (p.refuses e.file) p.name e.file e.load e.is_load (λ v. passes e.file v e.holds),
      )

  -- the file is refused
  pub refused : (v : E) (Is : Option File → Type 0) → Told Is → Of Is
      → ((file : Option File) → Is file → p.refuses file v) → Loaded p (Err v) old new
  refused v Is told of refuses =
      let e : Ended p.before p.name Is old new = ended p.before p.name Is old new told of in
      after (Err v) e.file (map Returned e.load) e.is_own (in_two e.load e.gained)
      (read_refused p.faults (p.refuses e.file) p.name e.file v e.load e.is_load (refuses e.file e.holds))

  -- memory ran out as it was read
  pub starved : (IsTrue old.tells → StarvedInLoad p.before p.name (files_in old p.name) old.calls new.calls)
      → Loaded p (Err p.faults.memory) old new
  starved told =
      let l : RanOut p.before p.name old new = ran_out p.before p.name old new told in
      after (Err p.faults.memory) l.file (map Returned l.load) l.is_own (in_two l.load l.gained)
      (read_starved p.faults (p.refuses l.file) p.name l.file l.load l.begins)

  -- or for what comes of it
  pub starved_after : (v : E) (Is : Option File → Type 0) → Told Is → Of Is → v ≡ p.faults.memory
      → Loaded p (Err v) old new
  starved_after v Is told of is =
      subst (λ (x : E). Loaded p (Err x) old new) (sym is) (starved (λ t. ((told t).1.0, (told t).1.1.begins, (told t).1.2)))

  -- a read failed
  pub broke : (IsNameIn MapReadCall p.before → ⊥)
      → (IsTrue old.tells → BrokeInLoad p.before p.name (files_in old p.name) old.calls new.calls)
      → Loaded p (Err (p.faults.call MapReadCall)) old new
  broke other told =
      let b : BrokeOff p.before p.name old new = broke_off p.before p.name old new other told in
      after (Err (p.faults.call MapReadCall)) b.file b.calls b.is_own b.gained
      (read_broke p.faults (p.refuses b.file) p.name b.file b.load b.calls b.begins b.broke)

-- ---- a mapfile that is resumed

-- what a resume of a mapfile says if the site tells: this of its file, and the reads of a load after the barrier
abbrev pub Resumed : MapNames → (Option File → Type 0) → (old new : SiteState) → Type 0
Resumed names Is old new =
    IsTrue old.tells → Is (files_in old names.map)
    × LoadEnded (barrier_calls names) names.map (files_in old names.map) old.calls new.calls

module _ {E T : Type 0} (f : Faults E) (refuses : Option File → E → Type 0) (makes : T → Option File → Type 0)
    (names : MapNames) (old new : SiteState) where
  abbrev Part : LoadPart E T
  Part = resumes f refuses makes names

  -- it is refused for its text
  pub resume_refused : (v : E) (error : MapError)
      → (IsTrue old.tells → IsRefusedFor (files_in old names.map) Tight error × (error ≢ NoStatusLine)
      × LoadEnded (barrier_calls names) names.map (files_in old names.map) old.calls new.calls)
      → IsOfFile (files_in old names.map) old.tells (λ file. IsRefusedFor file Tight error × (error ≢ NoStatusLine))
      → ((file : Option File) → IsRefusedFor file Tight error → (error ≢ NoStatusLine) → refuses file v)
      → Loaded Part (Err v) old new
  resume_refused v error told of why =
      refused Part old new v (λ file. IsRefusedFor file Tight error × (error ≢ NoStatusLine))
      (λ t. (((told t).0, (told t).1), (told t).2)) of (λ file is. why file is.0 is.1)

  abbrev BrokeAs : SiteCall → Type 0
  BrokeAs call = IsTrue old.tells → BrokeAsResumed names (files_in old names.map) call old.calls new.calls

  barrier_broke : (call : SiteCall) → IsNameIn call (barrier_calls names) → BrokeAs call
      → Loaded Part (Err (f.call call)) old new
  barrier_broke call named told =
      broke_first f (barrier_calls names) (λ file. Read (Some names.map) file ∷ Look (refuses file) ∷ [])
      (files_in old names.map) makes call old new named
      (λ t. in_barrier names (files_in old names.map) call old.calls new.calls named (told t))

  -- a call failed
  pub resume_broke : (call : SiteCall) → IsResumeCall call → BrokeAs call → Loaded Part (Err (f.call call)) old new
  resume_broke call (inl is) told = barrier_broke call (inl is) told
  resume_broke call (inr (inl is)) told = barrier_broke call (inr (inl is)) told
  resume_broke call (inr (inr is)) told =
      subst (λ (c : SiteCall). Loaded Part (Err (f.call c)) old new) (sym is)
      (broke Part old new (no_read names)
      (λ t. in_load names (files_in old names.map) old.calls new.calls
      (subst (λ (c : SiteCall). BrokeAsResumed names (files_in old names.map) c old.calls new.calls) is (told t))))

-- ---- a map that is named

-- how it is answered that a map that is named wasn't loaded
pub record AnswersNamed {E : Type 0} (f : Faults E) (refuses : Option File → E → Type 0) (mode : Mode)
    (answer : NamedFault → E) : Type 0 where
  pub broke : answer ReadFailed ≡ f.call MapReadCall
  pub starved : answer NoMemory ≡ f.memory
  pub absent : (file : Option File) → file ≡ None → refuses file (answer Absent)
  pub refused : (error : MapError) (file : Option File) → IsRefusedFor file mode error
      → refuses file (answer (Refused error))

-- where a load stopped, by its fault
pub named_stopped : {E T : Type 0} (f : Faults E) (refuses : Option File → E → Type 0) (makes : T → Option File → Type 0)
    (name : List ℕ) (old new : SiteState) (mode : Mode) (answer : NamedFault → E) (fault : NamedFault)
    → AnswersNamed f refuses mode answer
    → (IsTrue old.tells → LoadsNamed name mode (files_in old name) (Err fault) old.calls new.calls)
    → IsOfFile (files_in old name) old.tells (IsNamedAs mode (Err fault))
    → Loaded (reads_alone f refuses makes name) (Err (answer fault)) old new
named_stopped {E} f refuses makes name old new mode answer ReadFailed is told of =
    subst (λ (e : E). Loaded (reads_alone f refuses makes name) (Err e) old new) (sym is.broke)
    (broke (reads_alone f refuses makes name) old new (λ none. none) told)
named_stopped f refuses makes name old new mode answer Absent is told of =
    refused (reads_alone f refuses makes name) old new (answer Absent) (λ file. file ≡ None) told of is.absent
named_stopped f refuses makes name old new mode answer (Refused error) is told of =
    refused (reads_alone f refuses makes name) old new (answer (Refused error)) (λ file. IsRefusedFor file mode error) told
    of (is.refused error)
named_stopped {E} f refuses makes name old new mode answer NoMemory is told of =
    subst (λ (e : E). Loaded (reads_alone f refuses makes name) (Err e) old new) (sym is.starved)
    (starved (reads_alone f refuses makes name) old new told)
