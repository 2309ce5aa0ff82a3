-- All maps, read one after another.
use Rattle.std.proofs.Common.{◌≡◌, ℕ, false, IsTrue, List, [], ◌++◌, map, Option, Some, None, Result, Ok, Err, IfOk, IfErr, unwrap_or, refl, sym, ap, ◌∙◌, inl, inr, subst, append_assoc, append-nil}
use Rattle.std.proofs.lemmas.Bool.{both_ways}
use Rattle.block_list.specs.declared.status.Status.{Status}
use Rattle.block_list.specs.Tiled.{Tiled, statuses_in}
use Rattle.mapfile_text.specs.declared.read.Mode.{Mode}
use Rattle.mapfile_text.specs.declared.read.Mode.TheVariants.{Tight}
use Rattle.mapfile_reader.specs.declared.read.ReadMap.{ReadMap}
use Rattle.crash_site.specs.Files.{File, file_named}
use Rattle.crash_site.specs.Calls.{Entry, Done as Returned}
use Rattle.crash_site.specs.SiteState.{SiteState, files_in}
use Rattle.crash_site.specs.SiteChanges.{Stays}
use Rattle.mapfile_resume.specs.Named.{map_mode, HasStatuses}
use Rattle.mapfile_resume.specs.Resuming.{IsReadAs}
use Rattle.program_promise.specs.Work.{WorkStep}
use Rattle.ddrescuelog_words.specs.Modes.{creates, mapfile_mode}
use Rattle.ddrescuelog_words.specs.Command.{Command}
use Rattle.ddrescuelog_cli.specs.declared.ending.Which.{Which}
use Rattle.ddrescuelog_cli.specs.declared.ending.Which.TheVariants.{DomainMap, RunMap, OtherMap}
use Rattle.ddrescuelog_cli.specs.declared.load.LoadedMaps.{LoadedMaps}
use Rattle.ddrescuelog_cli.specs.declared.ending.LogEnding.{LogEnding}
use Rattle.ddrescuelog_cli.specs.declared.ending.LogEnding.TheVariants.{NoMemory}
use Rattle.ddrescuelog_cli.specs.Modes.{log_faults}
use Rattle.ddrescuelog_cli.specs.Maps.{Found, found_in, AreMapsOf, AreAskedFor}
use Rattle.program_promise.specs.Parts.{Did, only_calls, WentThrough, StoppedIn}
use Rattle.ddrescuelog_cli.specs.Work.{map_rows, named_rows}
use Rattle.ddrescuelog_cli.specs.Steps.{ReadsMap, statuses_or_none, ReadsNamed, maps_read, IsLoadedAs, LoadsMaps, ReadCause}
use Rattle.program_promise.proofs.PartLemmas.{stopped_more, through_then, through_both}
use Rattle.program_promise.proofs.ReadLemmas.{AreReads}
use Rattle.ddrescuelog_cli.proofs.ReadLemmas.{stopped_reads, through_reads, files_stand}
use Rattle.ddrescuelog_cli.proofs.MapsLemmas.{NamedBy, shown_is_one, has_named}

-- ---- one read leaves the files as they read

map_reads : (which : Which) (mode : Mode) (name : List ℕ) (file : Option File) (r : Result ReadMap LogEnding)
    (calls : List Entry)
    → Did log_faults (map_rows which mode (Some name) file) (λ m. IsReadAs file mode m) r calls → AreReads calls
map_reads which mode name file (Ok m) calls did = through_reads (map_rows which mode (Some name) file) calls tt did.1
map_reads which mode name file (Err e) calls did = stopped_reads (map_rows which mode (Some name) file) e calls tt did

pub map_stands : (which : Which) (mode : Mode) (name : List ℕ) (r : Result ReadMap LogEnding) (old new : SiteState)
    → ReadsMap which mode name r old new → Stays old new → IsTrue old.tells → files_in new ≡ files_in old
map_stands which mode name r old new reads stays t =
    files_stand old new reads.calls (stays.keeps.start t) (reads.gained t)
    (map_reads which mode name reads.file r reads.calls reads.did)

named_reads : (which : Which) (mode : Mode) (name : Option (List ℕ)) (file : Option File)
    (r : Result (Option Tiled) LogEnding) (calls : List Entry)
    → Did log_faults (map_rows which mode name file) (λ tiles. HasStatuses name mode file (statuses_in tiles)) r calls
    → AreReads calls
named_reads which mode name file (Ok m) calls did = through_reads (map_rows which mode name file) calls tt did.1
named_reads which mode name file (Err e) calls did = stopped_reads (map_rows which mode name file) e calls tt did

pub named_stands : (which : Which) (mode : Mode) (name : Option (List ℕ)) (r : Result (Option Tiled) LogEnding)
    (old new : SiteState) → ReadsNamed which mode name r old new → Stays old new → IsTrue old.tells
    → files_in new ≡ files_in old
named_stands which mode name r old new reads stays t =
    files_stand old new reads.calls (stays.keeps.start t) (reads.gained t)
    (named_reads which mode name reads.file r reads.calls reads.did)

-- ---- what is found by several

abbrev found_by : (mapfile other domain : Option File) → Found
found_by mapfile other domain = record { mapfile = mapfile; other = other; domain = domain }

same_found : (c : Command) (files : List ℕ → Option File) (mapfile other domain : Option File)
    → mapfile ≡ files c.mapfile → other ≡ file_named c.other files → domain ≡ file_named c.domain_map files
    → found_by mapfile other domain ≡ found_in c files
same_found c files mapfile other domain p q r =
    ap (λ (f : Option File). found_by f other domain) p
    ∙ ap (λ (f : Option File). found_by (files c.mapfile) f domain) q
    ∙ ap (λ (f : Option File). found_by (files c.mapfile) (file_named c.other files) f) r

still_tells : (old new : SiteState) → Stays old new → IsTrue old.tells → IsTrue new.tells
still_tells old new stays t = subst IsTrue (sym stays.keeps.tells) t

grew_both : (old mid new : SiteState) (a b : List Entry) → mid.calls ≡ old.calls ++ a → new.calls ≡ mid.calls ++ b
    → new.calls ≡ old.calls ++ (a ++ b)
grew_both old mid new a b p q = q ∙ ap (λ (x : List Entry). x ++ b) p ∙ append_assoc old.calls a b

abbrev pub ReadsMapfile : Command → Result ReadMap LogEnding → (old new : SiteState) → Type 0
ReadsMapfile c r old new = ReadsMap RunMap (mapfile_mode c.mode) c.mapfile r old new

abbrev pub ReadsOther : Command → Result (Option Tiled) LogEnding → (old new : SiteState) → Type 0
ReadsOther c r old new = ReadsNamed OtherMap Tight c.other r old new

abbrev pub ReadsDomain : Command → Result (Option Tiled) LogEnding → (old new : SiteState) → Type 0
ReadsDomain c r old new = ReadsNamed DomainMap (map_mode c.options.loose) c.domain_map r old new

abbrev mapfile_rows : Command → Option File → List (WorkStep LogEnding)
mapfile_rows c file = map_rows RunMap (mapfile_mode c.mode) (Some c.mapfile) file

abbrev other_rows : Command → Option File → List (WorkStep LogEnding)
other_rows c file = map_rows OtherMap Tight c.other file

abbrev domain_rows : Command → Option File → List (WorkStep LogEnding)
domain_rows c file = map_rows DomainMap (map_mode c.options.loose) c.domain_map file

-- ---- the work stopped at the mapfile

pub mapfile_refused : (c : Command) (e : LogEnding) (old new : SiteState) → ReadsMapfile c (Err e) old new
    → LoadsMaps c (Err e) old new
mapfile_refused c e old new r =
    let found : Found = found_by r.file (file_named c.other (files_in old)) (file_named c.domain_map (files_in old)) in
    record {
      found = found;
      calls = r.calls;
      is_own = λ t. same_found c (files_in old) r.file found.other found.domain (r.is_own t) refl refl;
      gained = r.gained;
      did = inr (stopped_more log_faults (mapfile_rows c r.file) (named_rows c found) (λ e d. ⊥) e
          (only_calls r.calls) r.did);
    }

-- ---- or at the other map

pub other_refused : (c : Command) (m : ReadMap) (e : LogEnding) (old mid new : SiteState)
    → ReadsMapfile c (Ok m) old mid → Stays old mid → ReadsOther c (Err e) mid new → LoadsMaps c (Err e) old new
other_refused c m e old mid new r stays s =
    let domain : Option File = file_named c.domain_map (files_in old) in
    record {
      found = found_by r.file s.file domain;
      calls = r.calls ++ s.calls;
      is_own = λ t. same_found c (files_in old) r.file s.file domain (r.is_own t)
          (s.is_own (still_tells old mid stays t)
          ∙ ap (file_named c.other) (map_stands RunMap (mapfile_mode c.mode) c.mapfile (Ok m) old mid r stays t))
          refl;
      gained = λ t. grew_both old mid new r.calls s.calls (r.gained t) (s.gained (still_tells old mid stays t));
      did = inr (through_then log_faults (mapfile_rows c r.file) (named_rows c (found_by r.file s.file domain))
          (λ e d. ⊥) e r.calls (only_calls s.calls) r.did.1
          (stopped_more log_faults (other_rows c s.file) (domain_rows c domain) (λ e d. ⊥) e (only_calls s.calls) s.did));
    }

-- ---- or it came to the domain map

abbrev front_rows : Command → Found → List (WorkStep LogEnding)
front_rows c found = mapfile_rows c found.mapfile ++ other_rows c found.other

-- the other maps were read, and the domain map with this outcome
record ReadsAll (c : Command) (m : ReadMap) (other : Option Tiled) (r : Result (Option Tiled) LogEnding)
    (old new : SiteState) : Type 0 where
  found : Found
  front : List Entry
  last : List Entry
  is_own : IsTrue old.tells → found ≡ found_in c (files_in old)
  gained : IsTrue old.tells → new.calls ≡ old.calls ++ (front ++ last)
  mapfile : IsReadAs found.mapfile (mapfile_mode c.mode) m
  has_other : HasStatuses c.other Tight found.other (statuses_in other)
  through : WentThrough (front_rows c found) front
  did : Did log_faults (map_rows DomainMap (map_mode c.options.loose) c.domain_map found.domain)
      (λ tiles. HasStatuses c.domain_map (map_mode c.options.loose) found.domain (statuses_in tiles)) r last

reads_all : (c : Command) (m : ReadMap) (other : Option Tiled) (r : Result (Option Tiled) LogEnding)
    (old mid low new : SiteState) → ReadsMapfile c (Ok m) old mid → Stays old mid → ReadsOther c (Ok other) mid low
    → Stays mid low → ReadsDomain c r low new → ReadsAll c m other r old new
reads_all c m other r old mid low new a stays b stays' d =
    let first : IsTrue old.tells → files_in mid ≡ files_in old =
    map_stands RunMap (mapfile_mode c.mode) c.mapfile (Ok m) old mid a stays in
    let second : IsTrue mid.tells → files_in low ≡ files_in mid =
    named_stands OtherMap Tight c.other (Ok other) mid low b stays' in
    let tells : IsTrue old.tells → IsTrue mid.tells = still_tells old mid stays in
    let tells' : IsTrue mid.tells → IsTrue low.tells = still_tells mid low stays' in
    record {
      found = found_by a.file b.file d.file;
      front = a.calls ++ b.calls;
      last = d.calls;
      is_own = λ t. same_found c (files_in old) a.file b.file d.file (a.is_own t)
          (b.is_own (tells t) ∙ ap (file_named c.other) (first t))
          (d.is_own (tells' (tells t)) ∙ ap (file_named c.domain_map) (second (tells t) ∙ first t));
      gained = λ t. grew_both old low new (a.calls ++ b.calls) d.calls
          (grew_both old mid low a.calls b.calls (a.gained t) (b.gained (tells t))) (d.gained (tells' (tells t)));
      mapfile = a.did.0;
      has_other = b.did.0;
      through = through_both (mapfile_rows c a.file) (other_rows c b.file) a.calls b.calls a.did.1 b.did.1;
      did = d.did;
    }

pub domain_refused : (c : Command) (m : ReadMap) (other : Option Tiled) (e : LogEnding) (old mid low new : SiteState)
    → ReadsMapfile c (Ok m) old mid → Stays old mid → ReadsOther c (Ok other) mid low → Stays mid low
    → ReadsDomain c (Err e) low new → LoadsMaps c (Err e) old new
domain_refused c m other e old mid low new a stays b stays' d =
    let all : ReadsAll c m other (Err e) old new = reads_all c m other (Err e) old mid low new a stays b stays' d in
    record {
      found = all.found;
      calls = all.front ++ all.last;
      is_own = all.is_own;
      gained = all.gained;
      did = inr (through_then log_faults (front_rows c all.found) (domain_rows c all.found.domain) (λ e d. ⊥) e
          all.front (only_calls all.last) all.through all.did);
    }

-- if memory ran out after a read it ran out in it
starved_in : (which : Which) (mode : Mode) (name : Option (List ℕ)) (file : Option File) (calls : List Entry)
    → WentThrough (map_rows which mode name file) calls
    → StoppedIn log_faults (map_rows which mode name file) NoMemory calls
starved_in which mode None file calls t =
    inl (refl, record { opens = refl; gain = record { calls = t.1.1; reads = refl; times = refl } })
starved_in which mode (Some name) file calls t =
    inr (inl (
      t.0,
      refl,
      t.2.begins,
      t.3 ∙ ap (λ (r : List Entry). map Returned t.0 ++ r) t.4.1 ∙ append-nil (map Returned t.0),
      record { opens = refl; reads = refl; times = refl },
    ))

starved_after : (c : Command) (m : ReadMap) (other domain : Option Tiled) (old new : SiteState)
    → ReadsAll c m other (Ok domain) old new → LoadsMaps c (Err NoMemory) old new
starved_after c m other domain old new all = record {
  found = all.found;
  calls = all.front ++ all.last;
  is_own = all.is_own;
  gained = all.gained;
  did = inr (through_then log_faults (front_rows c all.found) (domain_rows c all.found.domain) (λ e d. ⊥)
      NoMemory all.front (only_calls all.last) all.through
      (starved_in DomainMap (map_mode c.options.loose) c.domain_map all.found.domain all.last all.did.1));
}

-- ---- what the maps are that were read

or_none : (tiles : Option Tiled) → statuses_or_none tiles ≡ unwrap_or (statuses_in tiles) []
or_none None = refl
or_none (Some tiles) = refl

read_asked : (c : Command) (found : Found) (m : ReadMap) (other domain : Option Tiled) → creates c.mode ≡ false
    → NamedBy c.other Tight found.other (statuses_in other)
    → NamedBy c.domain_map (map_mode c.options.loose) found.domain (statuses_in domain)
    → AreAskedFor c (maps_read m other domain)
read_asked c found m other domain reads o d = record {
  mapfile = λ new. absurd (both_ways (creates c.mode) reads new);
  other = λ e. or_none other ∙ ap (λ (s : Option (List Status)). unwrap_or s []) (o.asked e);
  domain = d.asked;
}

read_are : (c : Command) (found : Found) (m : ReadMap) (other domain : Option Tiled)
    → IsReadAs found.mapfile (mapfile_mode c.mode) m → NamedBy c.other Tight found.other (statuses_in other)
    → NamedBy c.domain_map (map_mode c.options.loose) found.domain (statuses_in domain)
    → AreMapsOf c found (maps_read m other domain)
read_are c found m other domain a o d = record {
  mapfile = λ shown statuses reads s.
      shown_is_one found.mapfile (mapfile_mode c.mode) m.state shown m.tiles.statuses statuses
      (record { there = a.there; is = a.is; within = a.within; first = m.first; listed = m.listed; reads = a.reads }) s;
  other = λ n t e s. or_none other ∙ ap (λ (x : Option (List Status)). unwrap_or x []) (o.is n t e s);
  domain = d.is;
}

all_loaded : (c : Command) (m : ReadMap) (other domain : Option Tiled) (l : LoadedMaps) (old new : SiteState)
    → creates c.mode ≡ false → ReadsAll c m other (Ok domain) old new → IsLoadedAs c (maps_read m other domain) l
    → LoadsMaps c (Ok l) old new
all_loaded c m other domain l old new reads all loaded =
    let o : NamedBy c.other Tight all.found.other (statuses_in other) =
    has_named c.other Tight all.found.other (statuses_in other) all.has_other in
    let d : NamedBy c.domain_map (map_mode c.options.loose) all.found.domain (statuses_in domain) =
    has_named c.domain_map (map_mode c.options.loose) all.found.domain (statuses_in domain) all.did.0 in
    record {
      found = all.found;
      calls = all.front ++ all.last;
      is_own = all.is_own;
      gained = all.gained;
      did = (
        maps_read m other domain,
        read_are c all.found m other domain all.mapfile o d,
        read_asked c all.found m other domain reads o d,
        loaded,
        through_both (front_rows c all.found) (domain_rows c all.found.domain) all.front all.last all.through all.did.1,
      );
    }

-- by whether memory sufficed after the reads
pub loaded_or_starved : (c : Command) (m : ReadMap) (other domain : Option Tiled) (result : Result LoadedMaps LogEnding)
    (old mid low new : SiteState) → creates c.mode ≡ false → ReadsMapfile c (Ok m) old mid → Stays old mid
    → ReadsOther c (Ok other) mid low → Stays mid low → ReadsDomain c (Ok domain) low new
    → IfOk result (IsLoadedAs c (maps_read m other domain)) → IfErr result (λ e. e ≡ NoMemory)
    → LoadsMaps c result old new
loaded_or_starved c m other domain (Ok l) old mid low new reads a stays b stays' d loaded starved =
    all_loaded c m other domain l old new reads (reads_all c m other (Ok domain) old mid low new a stays b stays' d)
    loaded
loaded_or_starved c m other domain (Err e) old mid low new reads a stays b stays' d loaded starved =
    subst (λ (x : LogEnding). LoadsMaps c (Err x) old new) (sym starved)
    (starved_after c m other domain old new (reads_all c m other (Ok domain) old mid low new a stays b stays' d))

-- ---- why the reads stopped

-- no call failed before the read at which they stopped
pub cause_after : (e : LogEnding) (faults now later : ℕ) → now ≡ faults → ReadCause e now later
    → ReadCause e faults later
cause_after e faults now later kept cause = subst (λ (n : ℕ). ReadCause e n later) kept cause
