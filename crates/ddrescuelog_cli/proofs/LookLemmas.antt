-- What is looked at before a map is made, whether the files tell or not.
use Rattle.std.proofs.Common.{◌≡◌, ℕ, Bool, true, false, IsTrue, List, [], ◌∷◌, ◌++◌, Option, Some, None, Result, Ok, Err, refl, sym, ap, ◌∙◌, inl, inr, subst, append_assoc, append-nil}
use Rattle.std.proofs.lemmas.Bool.{both_ways}
use Rattle.mapfile_text.specs.declared.read.Mode.{Mode}
use Rattle.mapfile_text.specs.declared.read.Mode.TheVariants.{Tight}
use Rattle.block_list.specs.Tiled.{Tiled}
use Rattle.crash_site.specs.declared.site.SiteCall.TheVariants.{MapRead as MapReadCall}
use Rattle.crash_site.specs.declared.site.MapRead.{MapRead}
use Rattle.crash_site.specs.declared.site.MapRead.TheVariants.{Bytes, Absent}
use Rattle.crash_site.specs.Files.{File, empty_file, file_named}
use Rattle.crash_site.specs.FileAnswers.{IsRead}
use Rattle.crash_site.specs.Calls.{Call, Entry, Done as Returned, Failed, map_read}
use Rattle.crash_site.specs.CallsMade.{Lost}
use Rattle.crash_site.specs.Folder.{Folder, after}
use Rattle.crash_site.specs.SiteState.{SiteState, files_in}
use Rattle.crash_site.proofs.LawLemmas.{after-append}
use Rattle.mapfile_save.specs.Loading.{piece_size}
use Rattle.mapfile_resume.specs.Named.{map_mode}
use Rattle.program_promise.specs.Work.{Deeds, Works}
use Rattle.ddrescuelog_words.specs.Command.{Command}
use Rattle.program_promise.proofs.LoadLemmas.{by_tells}
use Rattle.ddrescuelog_cli.specs.declared.ending.Which.{Which}
use Rattle.ddrescuelog_cli.specs.declared.ending.Which.TheVariants.{DomainMap, OtherMap}
use Rattle.ddrescuelog_cli.specs.declared.ending.LogEnding.{LogEnding}
use Rattle.ddrescuelog_cli.specs.declared.ending.LogEnding.TheVariants.{Exists, SiteFault}
use Rattle.ddrescuelog_cli.specs.Modes.{log_faults}
use Rattle.ddrescuelog_cli.specs.Maps.{Found, found_in}
use Rattle.ddrescuelog_cli.specs.Refusals.{MapIsThere}
use Rattle.program_promise.specs.Parts.{only_calls, WentThrough, StoppedIn}
use Rattle.ddrescuelog_cli.specs.Work.{map_rows, named_rows, SaysIfThere, UnlessThere, WorksOver, WorksAs}
use Rattle.ddrescuelog_cli.specs.Steps.{ReadsNamed}
use Rattle.ddrescuelog_cli.specs.Creating.{IsFree, AsksIfThere, Looks}
use Rattle.program_promise.proofs.PartLemmas.{stopped_more, through_then}

-- ---- the question

pub asks_forced : {T : Type 0} (forced : Bool) (name : List ℕ) (x : T) (old : SiteState) → forced ≡ true
    → AsksIfThere forced name (Ok x) old old
asks_forced true name x old is = record {
  file = files_in old name;
  calls = [];
  is_own = λ t. refl;
  gained = λ t. sym (append-nil old.calls);
  stands = λ t. refl;
  did = refl;
}
asks_forced false name x old is = absurd (cc)

-- a file that a read with this answer may have found
file_for : MapRead → Option File
file_for Absent = None
file_for (Bytes n) = Some empty_file

for_says : (answer : MapRead) → SaysIfThere (file_for answer) answer
unfolding file_for
for_says Absent = tt
for_says (Bytes n) = tt

read_says : (file : Option File) (pos : ℕ) (buf : List ℕ) (answer : MapRead) → IsRead file pos buf answer
    → SaysIfThere file answer
read_says None pos buf Absent r = tt
read_says None pos buf (Bytes n) r = absurd r
read_says (Some f) pos buf Absent r = absurd r
read_says (Some f) pos buf (Bytes n) r = tt

-- one call more on a map leaves the files as they read
one_stands : (name : List ℕ) (pos size : ℕ) (answer : Option MapRead) (start start' : Folder) (old new : List Entry)
    → start' ≡ start → new ≡ old ++ Returned (map_read name pos size answer) ∷ []
    → (after start' new).files ≡ (after start old).files
one_stands name pos size answer start start' old new same grew =
    ap (λ (d : Folder). (after d new).files) same
    ∙ ap (λ (r : List Entry). (after start r).files) grew
    ∙ ap (λ (d : Folder). d.files) (after-append start old (Returned (map_read name pos size answer) ∷ []))

-- a read that answered so: its file, and its call
pub record Answered (name : List ℕ) (answer : MapRead) (old new : SiteState) : Type 0 where
  pub file : Option File
  pub is_own : IsTrue old.tells → file ≡ files_in old name
  pub gained : IsTrue old.tells
      → new.calls ≡ old.calls ++ Returned (map_read name 0 piece_size (Some answer)) ∷ []
  pub stands : IsTrue old.tells → files_in new ≡ files_in old
  pub says : SaysIfThere file answer

pub answered : (name : List ℕ) (answer : MapRead) (size : ℕ) (buf : List ℕ) (old new : SiteState) → size ≡ piece_size
    → (IsTrue old.tells → new.start ≡ old.start)
    → (IsTrue old.tells → new.calls ≡ old.calls ++ Returned (map_read name 0 size (Some answer)) ∷ [])
    → (IsTrue old.tells → IsRead (files_in old name) 0 buf answer) → Answered name answer old new
answered name answer size buf old new whole start grew read =
    let gains : IsTrue old.tells → new.calls ≡ old.calls ++ Returned (map_read name 0 piece_size (Some answer)) ∷ [] =
    λ t. grew t ∙ ap (λ n. old.calls ++ Returned (map_read name 0 n (Some answer)) ∷ []) whole in
    let stand : IsTrue old.tells → files_in new ≡ files_in old =
    λ t. one_stands name 0 piece_size (Some answer) old.start new.start old.calls new.calls (start t) (gains t) in
    by_tells old.tells (Answered name answer old new)
    (λ t. record {
      file = files_in old name;
      is_own = λ s. refl;
      gained = gains;
      stands = stand;
      says = read_says (files_in old name) 0 buf answer (read t);
    })
    (λ n. record {
      file = file_for answer;
      is_own = λ s. absurd (n s);
      gained = gains;
      stands = stand;
      says = for_says answer;
    })

none_there : (file : Option File) → SaysIfThere file Absent → (v : LogEnding) → MapIsThere file v → ⊥
none_there None says v there = both_ways false refl there.0
none_there (Some f) says v there = says

some_there : (file : Option File) (n : ℕ) → SaysIfThere file (Bytes n) → MapIsThere file Exists
some_there None n says = absurd says
some_there (Some f) n says = (refl, refl)

pub asks_free : {T : Type 0} (forced : Bool) (name : List ℕ) (x : T) (old new : SiteState) → forced ≡ false
    → Answered name Absent old new → AsksIfThere forced name (Ok x) old new
asks_free true name x old new is a = absurd (cc)
asks_free false name x old new is a = record {
  file = a.file;
  calls = Returned (map_read name 0 piece_size (Some Absent)) ∷ [];
  is_own = a.is_own;
  gained = a.gained;
  stands = a.stands;
  did = (Absent, a.says, refl, none_there a.file a.says);
}

pub asks_there : {T : Type 0} (forced : Bool) (name : List ℕ) (n : ℕ) (old new : SiteState) → forced ≡ false
    → Answered name (Bytes n) old new → AsksIfThere {T = T} forced name (Err Exists) old new
asks_there true name n old new is a = absurd (cc)
asks_there false name n old new is a = record {
  file = a.file;
  calls = Returned (map_read name 0 piece_size (Some (Bytes n))) ∷ [];
  is_own = a.is_own;
  gained = a.gained;
  stands = a.stands;
  did = inr (
    Bytes n,
    [],
    a.says,
    refl,
    inl (
      some_there a.file n a.says,
      record {
        opens = refl;
        gain = record { calls = refl; reads = refl; times = refl };
      },
    ),
  );
}

-- what a record gained with one call that failed
record GainsLost (c : Call) (old new : List Entry) : Type 0 where
  more : List Entry
  grew : new ≡ old ++ more
  lost : Lost c [] more

lost_gains : (c : Call) (old new : List Entry) → Lost c old new → GainsLost c old new
lost_gains c old new (inl grew) =
    record { more = Failed c grew.0 ∷ []; grew = grew.1; lost = inl (grew.0, refl) }
lost_gains c old new (inr same) = record { more = []; grew = same ∙ sym (append-nil old); lost = inr refl }

lost_stands : (name : List ℕ) (pos size : ℕ) (answer : Option MapRead) (start start' : Folder) (old new : List Entry)
    → start' ≡ start → Lost (map_read name pos size answer) old new
    → (after start' new).files ≡ (after start old).files
lost_stands name pos size answer start start' old new same (inl grew) =
    ap (λ (d : Folder). (after d new).files) same
    ∙ ap (λ (r : List Entry). (after start r).files) grew.1
    ∙ ap (λ (d : Folder). d.files) (after-append start old (Failed (map_read name pos size answer) grew.0 ∷ []))
lost_stands name pos size answer start start' old new same (inr is) =
    ap (λ (d : Folder). (after d new).files) same ∙ ap (λ (r : List Entry). (after start r).files) is

pub asks_broke : {T : Type 0} (forced : Bool) (name : List ℕ) (size : ℕ) (old new : SiteState) → forced ≡ false
    → size ≡ piece_size → (IsTrue old.tells → new.start ≡ old.start)
    → (IsTrue old.tells → Lost (map_read name 0 size None) old.calls new.calls)
    → AsksIfThere {T = T} forced name (Err (SiteFault MapReadCall)) old new
asks_broke true name size old new is whole start lost = absurd (cc)
asks_broke {T} false name size old new is whole start lost =
    let read : Call = map_read name 0 piece_size None in
    let loses : IsTrue old.tells → Lost read old.calls new.calls =
    λ t. subst (λ n. Lost (map_read name 0 n None) old.calls new.calls) whole (lost t) in
    by_tells old.tells (AsksIfThere {T = T} false name (Err (SiteFault MapReadCall)) old new)
    (λ t.
    let g : GainsLost read old.calls new.calls = lost_gains read old.calls new.calls (loses t) in
    record {
      file = files_in old name;
      calls = g.more;
      is_own = λ s. refl;
      gained = λ s. g.grew;
      stands = λ s. lost_stands name 0 piece_size None old.start new.start old.calls new.calls (start t) (loses t);
      did = inl (refl, g.lost, record { opens = refl; reads = refl; times = refl });
    })
    (λ n. record {
      file = None;
      calls = [];
      is_own = λ s. absurd (n s);
      gained = λ s. absurd (n s);
      stands = λ s. absurd (n s);
      did = inl (refl, inr refl, record { opens = refl; reads = refl; times = refl });
    })

-- ---- what comes after it

there_stopped : (forced : Bool) (name : List ℕ) (file : Option File) (more : LogEnding → Deeds → Type 0)
    (e : LogEnding) (d : Deeds) → UnlessThere forced name file (λ e d. ⊥) e d → UnlessThere forced name file more e d
there_stopped true name file more e d u = absurd u
there_stopped false name file more e d (inl b) = inl b
there_stopped false name file more e d (inr (answer, rest, says, is, inl there)) =
    inr (answer, rest, says, is, inl there)
there_stopped false name file more e d (inr (answer, rest, says, is, inr on)) = absurd on.1

there_then : (forced : Bool) (name : List ℕ) (file : Option File) (more : LogEnding → Deeds → Type 0) (e : LogEnding)
    (calls later : List Entry) → IsFree forced name file calls → more e (only_calls later)
    → UnlessThere forced name file more e (only_calls (calls ++ later))
there_then true name file more e calls later free w =
    subst (λ r. more e (only_calls (r ++ later))) (sym free) w
there_then false name file more e calls later (answer, says, is, passes) w =
    inr (answer, later, says, ap (λ r. r ++ later) is, inr (passes, w))

-- no other map is named
none_through : (which : Which) (mode : Mode) (name : Option (List ℕ)) (file : Option File) → name ≡ None → file ≡ None
    → WentThrough (map_rows which mode name file) []
none_through which mode None file unnamed none =
    (none, (λ v r. both_ways false refl r.0, refl))
none_through which mode (Some name) file unnamed none = absurd (cc)

named_stopped : (c : Command) (found : Found) (run : LogEnding → Deeds → Type 0) (e : LogEnding) (calls : List Entry)
    → c.other ≡ None → found.other ≡ None
    → StoppedIn log_faults (map_rows DomainMap (map_mode c.options.loose) c.domain_map found.domain) e calls
    → Works log_faults (named_rows c found) run e (only_calls calls)
named_stopped c found run e calls alone none s =
    through_then log_faults (map_rows OtherMap Tight c.other found.other)
    (map_rows DomainMap (map_mode c.options.loose) c.domain_map found.domain) run e [] (only_calls calls)
    (none_through OtherMap Tight c.other found.other alone none)
    (stopped_more log_faults (map_rows DomainMap (map_mode c.options.loose) c.domain_map found.domain) [] run e
    (only_calls calls) s)

named_then : (c : Command) (found : Found) (run : LogEnding → Deeds → Type 0) (e : LogEnding)
    (calls later : List Entry) → c.other ≡ None → found.other ≡ None
    → WentThrough (map_rows DomainMap (map_mode c.options.loose) c.domain_map found.domain) calls
    → run e (only_calls later) → Works log_faults (named_rows c found) run e (only_calls (calls ++ later))
named_then c found run e calls later alone none t w =
    through_then log_faults (map_rows OtherMap Tight c.other found.other)
    (map_rows DomainMap (map_mode c.options.loose) c.domain_map found.domain) run e [] (only_calls (calls ++ later))
    (none_through OtherMap Tight c.other found.other alone none)
    (through_then log_faults (map_rows DomainMap (map_mode c.options.loose) c.domain_map found.domain) [] run e calls
    (only_calls later) t w)

-- ---- what is looked at

-- what was found, where the files of the names are found so
same_found : (c : Command) (files : List ℕ → Option File) (mapfile domain : Option File) → c.other ≡ None
    → mapfile ≡ files c.mapfile → domain ≡ file_named c.domain_map files
    → record { mapfile = mapfile; other = None; domain = domain } ≡ found_in c files
same_found c files mapfile domain alone m d =
    ap (λ (f : Option File). record { mapfile = f; other = None; domain = domain }) m
    ∙ ap (λ (f : Option File). record { mapfile = files c.mapfile; other = None; domain = f }) d
    ∙ sym (ap (λ (n : Option (List ℕ)).
    record { mapfile = files c.mapfile; other = file_named n files; domain = file_named c.domain_map files }) alone)

pub looks_stopped : {T : Type 0} (c : Command) (e : LogEnding) (old new : SiteState) → c.other ≡ None
    → AsksIfThere {T = T} c.options.forced c.mapfile (Err e) old new → Looks c (Err e) old new
looks_stopped c e old new alone a =
    let files : List ℕ → Option File = files_in old in
    let found : Found = record { mapfile = a.file; other = None; domain = file_named c.domain_map files } in
    record {
      found = found;
      calls = a.calls;
      is_own = λ t. same_found c files a.file (file_named c.domain_map files) alone (a.is_own t) refl;
      gained = a.gained;
      did = λ line list m. inr (there_stopped c.options.forced c.mapfile a.file
          (Works log_faults (named_rows c found) (WorksOver c line list m)) e (only_calls a.calls) a.did);
    }

-- what both found and called
found_both : (c : Command) (old mid : SiteState) (mapfile domain : Option File) → c.other ≡ None
    → mid.tells ≡ old.tells → (IsTrue old.tells → mapfile ≡ files_in old c.mapfile)
    → (IsTrue old.tells → files_in mid ≡ files_in old)
    → (IsTrue mid.tells → domain ≡ file_named c.domain_map (files_in mid)) → IsTrue old.tells
    → record { mapfile = mapfile; other = None; domain = domain } ≡ found_in c (files_in old)
found_both c old mid mapfile domain alone same m stands d t =
    same_found c (files_in old) mapfile domain alone (m t)
    (d (subst IsTrue (sym same) t) ∙ ap (λ (f : List ℕ → Option File). file_named c.domain_map f) (stands t))

calls_both : (old mid new : SiteState) (first second : List Entry) → mid.tells ≡ old.tells
    → (IsTrue old.tells → mid.calls ≡ old.calls ++ first) → (IsTrue mid.tells → new.calls ≡ mid.calls ++ second)
    → IsTrue old.tells → new.calls ≡ old.calls ++ (first ++ second)
calls_both old mid new first second same f s t =
    s (subst IsTrue (sym same) t) ∙ ap (λ r. r ++ second) (f t) ∙ append_assoc old.calls first second

looks_broke : {T : Type 0} (c : Command) (x : T) (e : LogEnding) (old mid new : SiteState) → c.other ≡ None
    → mid.tells ≡ old.tells → AsksIfThere c.options.forced c.mapfile (Ok x) old mid
    → ReadsNamed DomainMap (map_mode c.options.loose) c.domain_map (Err e) mid new → Looks c (Err e) old new
looks_broke c x e old mid new alone same a r =
    let found : Found = record { mapfile = a.file; other = None; domain = r.file } in
    record {
      found = found;
      calls = a.calls ++ r.calls;
      is_own = found_both c old mid a.file r.file alone same a.is_own a.stands r.is_own;
      gained = calls_both old mid new a.calls r.calls same a.gained r.gained;
      did = λ line list m. inr (there_then c.options.forced c.mapfile a.file
          (Works log_faults (named_rows c found) (WorksOver c line list m)) e a.calls r.calls a.did
          (named_stopped c found (WorksOver c line list m) e r.calls alone refl r.did));
    }

looks_read : {T : Type 0} (c : Command) (x : T) (tiles : Option Tiled) (old mid new : SiteState)
    → c.other ≡ None → mid.tells ≡ old.tells → AsksIfThere c.options.forced c.mapfile (Ok x) old mid
    → ReadsNamed DomainMap (map_mode c.options.loose) c.domain_map (Ok tiles) mid new → Looks c (Ok tiles) old new
looks_read c x tiles old mid new alone same a r =
    let found : Found = record { mapfile = a.file; other = None; domain = r.file } in
    record {
      found = found;
      calls = a.calls ++ r.calls;
      is_own = found_both c old mid a.file r.file alone same a.is_own a.stands r.is_own;
      gained = calls_both old mid new a.calls r.calls same a.gained r.gained;
      did = (
        r.did.0,
        λ line list m e later w.
            subst (λ (calls : List Entry). WorksAs true c line list found m e (only_calls calls))
            (sym (append_assoc a.calls r.calls later))
            (inr (there_then c.options.forced c.mapfile a.file
            (Works log_faults (named_rows c found) (WorksOver c line list m)) e a.calls (r.calls ++ later) a.did
            (named_then c found (WorksOver c line list m) e r.calls later alone refl r.did.1 w))),
      );
    }

-- by whether the domain map was read
pub looks_by : {T : Type 0} (c : Command) (x : T) (mode : Mode) (r : Result (Option Tiled) LogEnding)
    (old mid new : SiteState) → c.other ≡ None → mode ≡ map_mode c.options.loose → mid.tells ≡ old.tells
    → AsksIfThere c.options.forced c.mapfile (Ok x) old mid → ReadsNamed DomainMap mode c.domain_map r mid new
    → Looks c r old new
looks_by c x mode (Ok tiles) old mid new alone is same a r =
    looks_read c x tiles old mid new alone same a
    (subst (λ (m : Mode). ReadsNamed DomainMap m c.domain_map (Ok tiles) mid new) is r)
looks_by c x mode (Err e) old mid new alone is same a r =
    looks_broke c x e old mid new alone same a
    (subst (λ (m : Mode). ReadsNamed DomainMap m c.domain_map (Err e) mid new) is r)
