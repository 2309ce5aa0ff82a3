-- What a rescue did after the maps that options name, by where it ended, whatever the objects tell.
use Rattle.std.proofs.Common.{◌≡◌, ℕ, ◌+◌, ◌-◌, ◌<◌, ◌≤◌, ◌^◌, Bool, true, false, IsTrue, List, [], ◌∷◌, ◌++◌, map, length, All, Option, Some, None, option_map, Result, Ok, Err, refl, sym, ap, ◌∙◌, inl, inr, subst, arith, append_assoc, append-nil}
use Rattle.std.specs.Str.{bytes_eq}
use Rattle.std.proofs.lemmas.Bool.{false_from_ne_true}
use Rattle.std.proofs.lemmas.List.Elements.{All-nil}
use Rattle.std.proofs.lemmas.Slice.Eq.{bytes_eq-Decides}
use Rattle.block_list.specs.declared.status.Status.{Status}
use Rattle.faulty_source.specs.SourceState.{SourceState}
use Rattle.faulty_source.specs.SourceChanges.{Stays as SourceStays, AnswersOpen, OpensBySchedule}
use Rattle.crash_site.specs.Files.{File, file_named}
use Rattle.crash_site.specs.Folder.{Folder, opened, after}
use Rattle.crash_site.specs.Calls.{Entry, Done as Returned, image_open}
use Rattle.crash_site.specs.CallsMade.{Made}
use Rattle.crash_site.specs.SiteState.{SiteState, files_in}
use Rattle.crash_site.specs.SiteChanges.{Keeps}
use Rattle.crash_site.proofs.LawLemmas.{after-append}
use Rattle.mapfile_save.specs.MapNames.{MapNames, names_of}
use Rattle.rescue_console.specs.ClockState.{ClockState}
use Rattle.rescue_console.specs.ConsoleState.{ConsoleState}
use Rattle.option_words.specs.declared.fault.UsageFault.TheVariants.{PlaceTooLarge}
use Rattle.rescue_rules.specs.Across.{across}
use Rattle.faulty_source.specs.Journal.{IsFrom}
use Rattle.program_promise.specs.Work.{Opened as IsOpened, Unopened, Deeds, Look, Works}
use Rattle.program_promise.specs.Parts.{only_calls, WentThrough}
use Rattle.program_promise.specs.Holds.{after_entries, after_open}
use Rattle.program_promise.proofs.PartLemmas.{stopped_more, through_then, grew_both}
use Rattle.ddrescue_words.specs.declared.options.Options.{Options}
use Rattle.ddrescue_words.specs.Command.{Command}
use Rattle.task_files.specs.declared.ending.Ending.{Ending}
use Rattle.task_files.specs.declared.ending.Ending.TheVariants.{Usage, SourceFault}
use Rattle.task_files.specs.declared.load.LoadedMap.{LoadedMap}
use Rattle.task_files.specs.Names.{AreNamedApart}
use Rattle.task_files.specs.Asked.{names_by, place_by, setting_of, ArePlacedBy, IsBeyond}
use Rattle.task_files.specs.Maps.{Found, found_in, mapfile_of, seen_through}
use Rattle.task_files.specs.Refusals.{PlacesRefused}
use Rattle.task_files.specs.Findings.{HasGainedReads}
use Rattle.program_promise.specs.Opens.{AreOpens}
use Rattle.task_files.specs.Work.{Rescues, rescue_faults, output_rows, load_rows, opened_rows, RunsOver}
use Rattle.task_files.specs.Steps.{Gains, DidRun, OpensOutput, Loads, mapfile_by, maps_of, DidAfterMaps}
use Rattle.task_files.proofs.ListingLemmas.{Listing, listed_if, own_listing, some_listing}
use Rattle.mapfile_text.specs.declared.state.MapState.{MapState}
use Rattle.rescue_console.proofs.SpeakingLemmas.{says_none}
use Rattle.rescue_rules.specs.Setting.{Setting}
use Rattle.rescue_rules.specs.Work.{Gain}

-- an open of this input, which went well or failed
abbrev pub IsOpen : List ℕ → (s0 s1 : SourceState) → Type 0
IsOpen infile s0 s1 = AreOpens (IsOpened infile ∷ []) s0 s1

abbrev pub IsNotOpen : List ℕ → (s0 s1 : SourceState) → Type 0
IsNotOpen infile s0 s1 = AreOpens (Unopened infile ∷ []) s0 s1

-- the input was opened, and not read yet; where it tells, this is its length
pub record HasInput (infile : List ℕ) (end : ℕ) (s0 s1 : SourceState) : Type 0 where
  pub opened : IsOpen infile s0 s1
  pub same : IsTrue s0.tells → s1.journal ≡ s0.journal
  pub bytes : IsTrue s0.tells → s1.bytes ≡ s0.bytes
  pub tells : s1.tells ≡ s0.tells
  pub all : IsTrue s0.tells → end ≡ length s0.bytes
  pub short : end < 2 ^ 63

-- an open that didn't go well failed
pub not_opened : {E : Type 0} (infile : List ℕ) (r : Result ℕ E) (s0 s1 : SourceState) → ((n : ℕ) → r ≡ Ok n → ⊥)
    → AnswersOpen infile r s0 s1 → (IsTrue s0.is_scheduled → OpensBySchedule infile r s0 s1) → IsNotOpen infile s0 s1
not_opened infile (Ok n) s0 s1 never call schedule = absurd (never n refl)
not_opened infile (Err e) s0 s1 never call schedule =
    (call.opens, call.input, λ scheduled. (schedule scheduled).answers.0 refl)

-- no read is seen where there is none
pub none_seen : (test : Option (List Status)) → seen_through test [] ≡ []
none_seen None = refl
none_seen (Some map) = refl

-- nothing but calls was gained
pub gains_alone : (test : Option (List Status)) (s0 s1 : SourceState) (d0 d1 : SiteState) (k : ClockState)
    (x : ConsoleState) (calls : List Entry) → (IsTrue s0.tells → s1.journal ≡ s0.journal)
    → (IsTrue d0.tells → d1.calls ≡ d0.calls ++ calls)
    → Gains test (across s0 s1 d0 d1 k k x x) (record { calls = calls; reads = []; times = [] })
gains_alone test s0 s1 d0 d1 k x calls same grew = record {
  calls = grew;
  reads = λ tell. record {
    raw = [];
    journal = same tell ∙ sym (append-nil s0.journal);
    seen_are = none_seen test;
    right = All-nil (IsFrom s0.bytes);
  };
  times = λ tell. sym (append-nil k.readings);
  fit = All-nil (λ t. t < 2 ^ 64);
}

-- the input couldn't be opened
pub input_fails : (c : Command) (l : List ℕ) (domain test : Option (List Status)) (heard : Bool) (s0 s1 : SourceState)
    (d : SiteState) (k : ClockState) (x : ConsoleState) → (IsTrue s0.tells → s1.journal ≡ s0.journal)
    → IsNotOpen c.infile s0 s1 → DidAfterMaps c l domain test heard heard SourceFault (across s0 s1 d d k k x x)
input_fails c l domain test heard s0 s1 d k x same opens =
    let found : Found = found_in c (files_in d) in
    let some : (listed : Option (ℕ × ℕ)) × Listing c found.mapfile listed = some_listing c found.mapfile in
    record {
      found = found;
      output = λ td. refl;
      mapfile = λ td. refl;
      end = length s0.bytes;
      own_end = λ ts. refl;
      listed = some.0;
      whole = some.1.whole;
      lists = some.1.are;
      did = record { opens = Unopened c.infile ∷ []; gain = record { calls = []; reads = []; times = [] } };
      opens = opens;
      gains = gains_alone test s0 s1 d d k x [] same (λ td. sym (append-nil d.calls));
      lines = [];
      silent = λ none. refl;
      says = says_none heard x;
      works = inl (refl, refl, record { calls = refl; reads = refl; times = refl });
      short = inl (record { calls = refl; reads = refl; times = refl });
    }

-- the output was refused, or couldn't be opened
pub output_fails : (c : Command) (l : List ℕ) (domain test : Option (List Status)) (heard : Bool) (end : ℕ) (e : Ending)
    (s0 s1 : SourceState) (d0 d1 : SiteState) (k : ClockState) (x : ConsoleState) → HasInput c.infile end s0 s1
    → OpensOutput {T = Unit {0}} true c.options.forced c.outfile (Err e) d0 d1
    → DidAfterMaps c l domain test heard heard e (across s0 s1 d0 d1 k k x x)
output_fails c l domain test heard end e s0 s1 d0 d1 k x input o =
    let found : Found = record (found_in c (files_in d0)) { output = o.file } in
    let some : (listed : Option (ℕ × ℕ)) × Listing c found.mapfile listed = some_listing c found.mapfile in
    record {
      found = found;
      output = o.is_own;
      mapfile = λ td. refl;
      end = end;
      own_end = input.all;
      listed = some.0;
      whole = some.1.whole;
      lists = some.1.are;
      did = after_open c.infile (only_calls o.calls);
      opens = input.opened;
      gains = gains_alone test s0 s1 d0 d1 k x o.calls input.same o.gained;
      lines = [];
      silent = λ none. refl;
      says = says_none heard x;
      works = inr (
        [],
        refl,
        stopped_more rescue_faults (output_rows true c.options.forced c.outfile o.file)
            (load_rows c.mapfile found.mapfile ++ Look (PlacesRefused c.options end) ∷ [])
            (Rescues (setting_of c l end (maps_of domain test some.0)) found.mapfile []) e (only_calls o.calls) o.did,
      );
      short = inr input.short;
    }

-- ---- the mapfile after the open of the output

-- a name isn't another where the other isn't it
bytes_eq-flip : (xs ys : List ℕ) → bytes_eq xs ys ≡ false → bytes_eq ys xs ≡ false
bytes_eq-flip xs ys e = false_from_ne_true (bytes_eq ys xs) (λ t.
    let same : ys ≡ xs = (bytes_eq-Decides ys xs).0 t in
    let h : bytes_eq xs ys ≡ true = (bytes_eq-Decides xs ys).1 (sym same) in cc)

opened_apart : (makes : Bool) (d : Folder) (out name : List ℕ) → bytes_eq out name ≡ false → (file : Option File)
    → (opened d out makes file).files name ≡ d.files name
opened_apart true d out name apart None = let e : bytes_eq name out ≡ false = bytes_eq-flip out name apart in rw e refl
opened_apart false d out name apart None = refl
opened_apart makes d out name apart (Some f) = refl

-- the mapfile as it reads isn't touched when another file is opened
open_apart : (makes : Bool) (start start' : Folder) (out name : List ℕ) (old new : List Entry) → start' ≡ start
    → bytes_eq out name ≡ false → Made (image_open out makes ∷ []) old new
    → (after start' new).files name ≡ (after start old).files name
open_apart makes start start' out name old new same apart made =
    ap (λ s. (after s new).files name) same ∙ ap (λ r. (after start r).files name) made
    ∙ ap (λ (d : Folder). d.files name) (after-append start old (Returned (image_open out makes) ∷ []))
    ∙ opened_apart makes (after start old) out name apart ((after start old).files out)

-- The output is open, made or not where it was absent, and the mapfile was loaded with this outcome, if there is one.
pub record HasLoaded (makes : Bool) (c : Command) (n : Option MapNames) (end : ℕ) (r : Result LoadedMap Ending)
    (d0 d1 d2 : SiteState) : Type 0 where
  pub names : n ≡ names_by c
  pub apart : AreNamedApart c.outfile n
  pub output : OpensOutput {T = Unit {0}} makes c.options.forced c.outfile (Ok tt) d0 d1
  pub keeps : Keeps d0 d1
  pub loads : Loads (mapfile_by n) end r d1 d2

by_names : (mapfile : Option (List ℕ)) → mapfile_by (option_map names_of mapfile) ≡ mapfile
by_names None = refl
by_names (Some name) = refl

pub own_loads : (makes : Bool) (c : Command) (n : Option MapNames) (end : ℕ) (r : Result LoadedMap Ending) (d0 d1 d2 : SiteState)
    → HasLoaded makes c n end r d0 d1 d2 → Loads c.mapfile end r d1 d2
own_loads makes c n end r d0 d1 d2 h =
    subst (λ (m : Option (List ℕ)). Loads m end r d1 d2) (ap mapfile_by h.names ∙ by_names c.mapfile) h.loads

mapfile_stands : (makes : Bool) (out : List ℕ) (mapfile : Option (List ℕ)) (d0 d1 : SiteState)
    → AreNamedApart out (option_map names_of mapfile) → d1.start ≡ d0.start
    → Made (image_open out makes ∷ []) d0.calls d1.calls → file_named mapfile (files_in d1) ≡ file_named mapfile (files_in d0)
mapfile_stands makes out None d0 d1 apart same made = refl
mapfile_stands makes out (Some name) d0 d1 apart same made =
    open_apart makes d0.start d1.start out name d0.calls d1.calls same apart.0 made

-- the calls of an open that went well
pub only_open : (makes forced : Bool) (out : List ℕ) (file : Option File) (calls : List Entry)
    → WentThrough (output_rows makes forced out file) calls → calls ≡ Returned (image_open out makes) ∷ []
only_open true forced out file calls t =
    t.1 ∙ ap (λ (r : List Entry). Returned (image_open out true) ∷ r) t.2.1
only_open false forced out file calls t =
    t.1 ∙ ap (λ (r : List Entry). Returned (image_open out false) ∷ r) t.2.1.1

-- the mapfile that was loaded is the one that stood there before
pub own_mapfile : (makes : Bool) (c : Command) (n : Option MapNames) (end : ℕ) (r : Result LoadedMap Ending)
    (d0 d1 d2 : SiteState) → (h : HasLoaded makes c n end r d0 d1 d2) → (file : Option File)
    → (IsTrue d1.tells → file ≡ file_named c.mapfile (files_in d1)) → IsTrue d0.tells → file ≡ mapfile_of c (files_in d0)
own_mapfile makes c n end r d0 d1 d2 h file own td =
    own (rw h.keeps.tells td)
    ∙ mapfile_stands makes c.outfile c.mapfile d0 d1 (subst (AreNamedApart c.outfile) h.names h.apart) (h.keeps.start td)
    (h.output.gained td ∙ ap (λ (r : List Entry). d0.calls ++ r)
    (only_open makes c.options.forced c.outfile h.output.file h.output.calls h.output.did.1))

-- the load of the mapfile stopped
pub load_fails : (c : Command) (l : List ℕ) (domain test : Option (List Status)) (heard : Bool) (n : Option MapNames)
    (end : ℕ) (e : Ending) (s0 s1 : SourceState) (d0 d1 d2 : SiteState) (k : ClockState) (x : ConsoleState)
    → HasInput c.infile end s0 s1 → HasLoaded true c n end (Err e) d0 d1 d2
    → DidAfterMaps c l domain test heard heard e (across s0 s1 d0 d2 k k x x)
load_fails c l domain test heard n end e s0 s1 d0 d1 d2 k x input h =
    let o : OpensOutput {T = Unit {0}} true c.options.forced c.outfile (Ok tt) d0 d1 = h.output in
    let p : Loads c.mapfile end (Err e) d1 d2 = own_loads true c n end (Err e) d0 d1 d2 h in
    let found : Found = record (found_in c (files_in d0)) { output = o.file; mapfile = p.file } in
    let some : (listed : Option (ℕ × ℕ)) × Listing c p.file listed = some_listing c p.file in
    record {
      found = found;
      output = o.is_own;
      mapfile = own_mapfile true c n end (Err e) d0 d1 d2 h p.file p.is_own;
      end = end;
      own_end = input.all;
      listed = some.0;
      whole = some.1.whole;
      lists = some.1.are;
      did = after_open c.infile (after_entries o.calls (only_calls p.calls));
      opens = input.opened;
      gains = gains_alone test s0 s1 d0 d2 k x (o.calls ++ p.calls) input.same
          (λ td. p.gained (rw h.keeps.tells td) ∙ ap (λ r. r ++ p.calls) (o.gained td)
          ∙ append_assoc d0.calls o.calls p.calls);
      lines = [];
      silent = λ none. refl;
      says = says_none heard x;
      works = inr (
        [],
        refl,
        through_then rescue_faults (output_rows true c.options.forced c.outfile o.file)
            (load_rows c.mapfile p.file ++ Look (PlacesRefused c.options end) ∷ [])
            (Rescues (setting_of c l end (maps_of domain test some.0)) p.file []) e o.calls (only_calls p.calls) o.did.1
            (stopped_more rescue_faults (load_rows c.mapfile p.file) (Look (PlacesRefused c.options end) ∷ [])
            (Rescues (setting_of c l end (maps_of domain test some.0)) p.file []) e (only_calls p.calls) p.did),
      );
      short = inr input.short;
    }

-- what is done after a load that went on to its end
loaded_goes : (c : Command) (found : Found) (end : ℕ) (run : Ending → Deeds → Type 0) (e : Ending)
    (output load : List Entry) (d : Deeds) → WentThrough (output_rows true c.options.forced c.outfile found.output) output
    → WentThrough (load_rows c.mapfile found.mapfile) load
    → Works rescue_faults (Look (PlacesRefused c.options end) ∷ []) run e d
    → Works rescue_faults (opened_rows c found end) run e
    (after_open c.infile (after_entries output (after_entries load d)))
loaded_goes c found end run e output load d t u w =
    inr (
      d.opens,
      refl,
      through_then rescue_faults (output_rows true c.options.forced c.outfile found.output)
          (load_rows c.mapfile found.mapfile ++ Look (PlacesRefused c.options end) ∷ []) run e output
          (after_entries load d) t
          (through_then rescue_faults (load_rows c.mapfile found.mapfile) (Look (PlacesRefused c.options end) ∷ []) run e
          load d u w),
    )

-- a position has no place in the output
pub place_fails : (c : Command) (l : List ℕ) (domain test : Option (List Status)) (heard : Bool) (n : Option MapNames)
    (end : ℕ) (start : LoadedMap) (s0 s1 : SourceState) (d0 d1 d2 : SiteState) (k : ClockState) (x : ConsoleState)
    → HasInput c.infile end s0 s1 → HasLoaded true c n end (Ok start) d0 d1 d2 → IsBeyond c.options end
    → DidAfterMaps c l domain test heard heard (Usage PlaceTooLarge) (across s0 s1 d0 d2 k k x x)
place_fails c l domain test heard n end start s0 s1 d0 d1 d2 k x input h far =
    let o : OpensOutput {T = Unit {0}} true c.options.forced c.outfile (Ok tt) d0 d1 = h.output in
    let p : Loads c.mapfile end (Ok start) d1 d2 = own_loads true c n end (Ok start) d0 d1 d2 h in
    let found : Found = record (found_in c (files_in d0)) { output = o.file; mapfile = p.file } in
    let listing : Listing c p.file (listed_if c.options.complete_only start.first start.listed_end) =
    own_listing c p.file start.first start.listed_end p.did.0.lists in
    let listed : Option (ℕ × ℕ) = listed_if c.options.complete_only start.first start.listed_end in
    record {
      found = found;
      output = o.is_own;
      mapfile = own_mapfile true c n end (Ok start) d0 d1 d2 h p.file p.is_own;
      end = end;
      own_end = input.all;
      listed = listed;
      whole = listing.whole;
      lists = listing.are;
      did = after_open c.infile (after_entries o.calls (after_entries p.calls (only_calls [])));
      opens = input.opened;
      gains = gains_alone test s0 s1 d0 d2 k x (o.calls ++ (p.calls ++ [])) input.same
          (λ td. sym (append-nil d2.calls)
          ∙ grew_both d0.calls d1.calls d2.calls [] o.calls p.calls (o.gained td) (p.gained (rw h.keeps.tells td)));
      lines = [];
      silent = λ none. refl;
      says = says_none heard x;
      works = loaded_goes c found end (Rescues (setting_of c l end (maps_of domain test listed)) p.file [])
          (Usage PlaceTooLarge) o.calls p.calls (only_calls []) o.did.1 p.did.1
          (inl ((far, refl), record { opens = refl; gain = record { calls = refl; reads = refl; times = refl } }));
      short = inr input.short;
    }

-- each has one
pub placed_passes : (o : Options) (end : ℕ) → ArePlacedBy o end → (e : Ending) → PlacesRefused o end e → ⊥
placed_passes o end placed e refused =
    let x : ℕ = refused.0.0 in
    let near : place_by o x < 2 ^ 63 - 1 = placed x refused.0.1 in
    let far : 2 ^ 63 ≤ place_by o x + 1 = refused.0.2 in
    omega (arith, near, far)

-- where no clock was read nothing was said
pub ran_silent : (s : Setting) (statuses : List Status) (state : Option MapState) (lines : List (List ℕ)) (e : Ending)
    (g : Gain) → RunsOver s statuses state lines e g → g.times ≡ [] → lines ≡ []
ran_silent s statuses state lines e g (inl unbegun) none = unbegun.silent
ran_silent s statuses state lines e g (inr ran) none = absurd (omega (arith, ran.runs.times, ap length none))

-- a run came after it, which may not have begun
pub run_goes : (c : Command) (l : List ℕ) (domain test : Option (List Status)) (heard heard' : Bool) (n : Option MapNames)
    (end : ℕ) (start : LoadedMap) (e : Ending) (s0 s1 s2 : SourceState) (d0 d1 d2 d3 : SiteState) (k k' : ClockState)
    (x x' : ConsoleState) → HasInput c.infile end s0 s1 → HasLoaded true c n end (Ok start) d0 d1 d2 → d2.tells ≡ d0.tells
    → ArePlacedBy c.options end → SourceStays s1 s2
    → DidRun (setting_of c l end
    (maps_of domain test (listed_if c.options.complete_only start.first start.listed_end))) test start.tiles.statuses
    start.state heard heard' e (across s1 s2 d2 d3 k k' x x')
    → DidAfterMaps c l domain test heard heard' e (across s0 s2 d0 d3 k k' x x')
run_goes c l domain test heard heard' n end start e s0 s1 s2 d0 d1 d2 d3 k k' x x' input h told placed stays ran =
    let o : OpensOutput {T = Unit {0}} true c.options.forced c.outfile (Ok tt) d0 d1 = h.output in
    let p : Loads c.mapfile end (Ok start) d1 d2 = own_loads true c n end (Ok start) d0 d1 d2 h in
    let found : Found = record (found_in c (files_in d0)) { output = o.file; mapfile = p.file } in
    let listing : Listing c p.file (listed_if c.options.complete_only start.first start.listed_end) =
    own_listing c p.file start.first start.listed_end p.did.0.lists in
    let listed : Option (ℕ × ℕ) = listed_if c.options.complete_only start.first start.listed_end in
    record {
      found = found;
      output = o.is_own;
      mapfile = own_mapfile true c n end (Ok start) d0 d1 d2 h p.file p.is_own;
      end = end;
      own_end = input.all;
      listed = listed;
      whole = listing.whole;
      lists = listing.are;
      did = after_open c.infile
          (after_entries o.calls (after_entries p.calls (record { opens = []; gain = ran.gain })));
      opens = (stays.opens ∙ input.opened.0, λ ts. stays.name (rw input.tells ts) ∙ input.opened.1 ts);
      gains = record {
        calls = λ td. ran.gains.calls (rw told td)
            ∙ grew_both d0.calls d1.calls d2.calls ran.gain.calls o.calls p.calls (o.gained td)
            (p.gained (rw h.keeps.tells td));
        reads = λ ts.
            let g : HasGainedReads test s1 s2 ran.gain.reads = ran.gains.reads (rw input.tells ts) in
            record {
              raw = g.raw;
              journal = g.journal ∙ ap (λ j. j ++ g.raw) (input.same ts);
              seen_are = g.seen_are;
              right = subst (λ (bytes : List ℕ). All (IsFrom bytes) ran.gain.reads) (input.bytes ts) g.right;
            };
        times = ran.gains.times;
        fit = ran.gains.fit;
      };
      lines = ran.lines;
      silent = ran_silent (setting_of c l end (maps_of domain test listed)) start.tiles.statuses start.state ran.lines e ran.gain
          ran.runs;
      says = ran.says;
      works = loaded_goes c found end (Rescues (setting_of c l end (maps_of domain test listed)) p.file ran.lines) e o.calls
          p.calls
          (record { opens = []; gain = ran.gain }) o.did.1 p.did.1
          (inr (
            placed_passes c.options end placed,
            (refl, (start.tiles.statuses, start.state, p.did.0.stands, ran.runs)),
          ));
      short = inr input.short;
    }
