-- What a comparison did after its names, by where it ended, whatever the objects tell.
use Rattle.std.proofs.Common.{◌≡◌, ℕ, false, IsTrue, List, [], ◌∷◌, ◌++◌, map, length, All, Option, Some, None, Result, Ok, Err, refl, sym, ap, ◌∙◌, inl, inr, subst, append_assoc, append-nil}
use Rattle.std.proofs.lemmas.List.Elements.{All-nil}
use Rattle.block_list.specs.declared.status.Status.{Status}
use Rattle.mapfile_text.specs.declared.state.MapState.{MapState}
use Rattle.mapfile_text.specs.HeadingLines.{HeadingLines}
use Rattle.mapfile_text.specs.Printed.{printed}
use Rattle.faulty_source.specs.Journal.{Reading, IsFrom}
use Rattle.faulty_source.specs.SourceState.{SourceState}
use Rattle.faulty_source.specs.SourceChanges.{Keeps as SourceKeeps, Stays as SourceStays, AnswersOpen, OpensBySchedule}
use Rattle.crash_site.specs.Files.{File, bytes_of, file_named}
use Rattle.crash_site.specs.Folder.{Folder, opened, after}
use Rattle.crash_site.specs.Calls.{Call, Entry, Done as Returned, image_open}
use Rattle.crash_site.specs.SiteState.{SiteState, files_in, image_in}
use Rattle.crash_site.specs.SiteChanges.{Keeps, Stays as SiteStays}
use Rattle.crash_site.proofs.LawLemmas.{after-append}
use Rattle.mapfile_save.specs.MapNames.{MapNames, names_of}
use Rattle.mapfile_save.specs.Saving.{save_calls}
use Rattle.mapfile_save.specs.Loading.{barrier_calls}
use Rattle.rescue_rules.specs.Start.{Stands}
use Rattle.rescue_rules.specs.Work.{AreMapReads}
use Rattle.program_promise.specs.Work.{Opened as IsOpened, Unopened, Deeds, WorkStep, Take, Look as LookAt, Make, Works}
use Rattle.program_promise.specs.Parts.{only_calls, WentThrough}
use Rattle.program_promise.specs.Holds.{after_entries, after_open}
use Rattle.program_promise.proofs.FrontLemmas.{load_reads, reads_stand}
use Rattle.program_promise.proofs.PartLemmas.{stopped_more, through_then, grew_both}
use Rattle.rescue_verify.specs.declared.tally.Tally.{Tally}
use Rattle.rescue_verify.specs.Across.{across}
use Rattle.rescue_verify.specs.Looks.{Look, reads_of, seen_in, look_calls}
use Rattle.rescue_verify.specs.Verified.{judged_by}
use Rattle.rescue_verify.specs.Comparing.{Comparison, tally_of, Compares}
use Rattle.ddrescueverify_words.specs.declared.options.VerifyOptions.{VerifyOptions}
use Rattle.ddrescueverify_words.specs.Command.{Command}
use Rattle.program_promise.specs.Opens.{AreOpens}
use Rattle.ddrescueverify_cli.specs.declared.ending.VerifyEnding.{VerifyEnding}
use Rattle.ddrescueverify_cli.specs.declared.ending.VerifyEnding.TheVariants.{NoOutput, SourceFault}
use Rattle.ddrescueverify_cli.specs.declared.open.LoadedMap.{LoadedMap}
use Rattle.ddrescueverify_cli.specs.Asked.{IsBeyond, heading_of, comparison_of, shown_for, text_of}
use Rattle.ddrescueverify_cli.specs.Refusals.{OutputRefused, PlacesRefused}
use Rattle.ddrescueverify_cli.specs.Outside.{Found, found_in, place_by}
use Rattle.ddrescueverify_cli.specs.Work.{ComparesOver, EndsAfter, EndsSaved, Halts, IsAnswer, Completes, Verifies, after_looks, load_rows, opened_rows, output_rows, verify_faults}
use Rattle.ddrescueverify_cli.specs.Steps.{Beyond, DidWork, Halted, Loads, OpensOutput, SavesText, Starved, StopsComparing, WentOn}

-- ---- the open of the input

-- the input was opened, and not read yet; where it tells, this is its length
pub record HasInput (infile : List ℕ) (end : ℕ) (s0 s1 : SourceState) : Type 0 where
  pub opened : AreOpens (IsOpened infile ∷ []) s0 s1
  pub same : IsTrue s0.tells → s1.journal ≡ s0.journal
  pub keeps : SourceKeeps s0 s1
  pub all : IsTrue s0.tells → end ≡ length s0.bytes

pub not_opened : {E : Type 0} (infile : List ℕ) (r : Result ℕ E) (s0 s1 : SourceState) → ((n : ℕ) → r ≡ Ok n → ⊥)
    → AnswersOpen infile r s0 s1 → (IsTrue s0.is_scheduled → OpensBySchedule infile r s0 s1)
    → AreOpens (Unopened infile ∷ []) s0 s1
not_opened infile (Ok n) s0 s1 never call schedule = absurd (never n refl)
not_opened infile (Err e) s0 s1 never call schedule =
    (call.opens, call.input, λ scheduled. (schedule scheduled).answers.0 refl)

pub input_fails : (c : Command) (l : List ℕ) (s0 s1 : SourceState) (d : SiteState)
    → (IsTrue s0.tells → s1.journal ≡ s0.journal) → AreOpens (Unopened c.infile ∷ []) s0 s1
    → WentOn c l (Err SourceFault) (across s0 s1 d d)
input_fails c l s0 s1 d same opens = record {
  outside = record { line = l; found = found_in c (files_in d); end = length s0.bytes; looks = [] };
  did = record { opens = Unopened c.infile ∷ []; gain = record { calls = []; reads = []; times = [] } };
  line_is = refl;
  agrees = record {
    opens = opens;
    end = λ tells. refl;
    reads = λ tells. same tells ∙ sym (append-nil s0.journal);
    right = λ tells. All-nil (IsFrom s0.bytes);
    found = λ tells. refl;
    calls = λ tells. sym (append-nil d.calls);
    seen = λ tells. refl;
  };
  works = inl (refl, refl, record { calls = refl; reads = refl; times = refl });
}

-- ---- the open of the output

-- what follows the output
abbrev later_rows : (c : Command) → (mapfile : Option File) → (end : ℕ) → List (WorkStep VerifyEnding)
later_rows c mapfile end = load_rows c.mapfile mapfile ++ LookAt (PlacesRefused c.options end) ∷ Take ∷ []

pub output_fails : (c : Command) (l : List ℕ) (end : ℕ) (e : VerifyEnding) (s0 s1 : SourceState) (d0 d1 : SiteState)
    → HasInput c.infile end s0 s1 → OpensOutput {T = Unit {0}} c.outfile (Err e) d0 d1 → WentOn c l (Err e) (across s0 s1 d0 d1)
output_fails c l end e s0 s1 d0 d1 input o =
    let found : Found = record { output = o.file; mapfile = files_in d0 c.mapfile } in
    record {
      outside = record { line = l; found = found; end = end; looks = [] };
      did = after_open c.infile (only_calls o.calls);
      line_is = refl;
      agrees = record {
        opens = input.opened;
        end = input.all;
        reads = λ tells. input.same tells ∙ sym (append-nil s0.journal);
        right = λ tells. All-nil (IsFrom s0.bytes);
        found = λ tells.
            ap (λ (f : Option File). record { output = f; mapfile = files_in d0 c.mapfile }) (o.is_own tells);
        calls = o.gained;
        seen = λ tells. refl;
      };
      works = inr (
        [],
        refl,
        stopped_more verify_faults (output_rows c.outfile o.file) (later_rows c found.mapfile end)
            (Verifies c l found end []) e (only_calls o.calls) o.did,
      );
    }

-- ---- the load of the mapfile

-- an open that doesn't make the file changes none
pub open_stands : (d : Folder) (out : List ℕ) (file : Option File) → (opened d out false file).files ≡ d.files
open_stands d out None = refl
open_stands d out (Some f) = refl

-- the calls of an open that went well
only_open : (out : List ℕ) (file : Option File) (calls : List Entry) → WentThrough (output_rows out file) calls
    → calls ≡ Returned (image_open out false) ∷ []
only_open out file calls t = t.1 ∙ ap (λ (r : List Entry). Returned (image_open out false) ∷ r) t.2.1

-- the output was opened, and the mapfile loaded with this outcome
pub record HasLoaded (c : Command) (n : MapNames) (end : ℕ) (r : Result LoadedMap VerifyEnding) (d0 d1 d2 : SiteState)
    : Type 0 where
  pub names : n ≡ names_of c.mapfile
  pub output : OpensOutput {T = Unit {0}} c.outfile (Ok tt) d0 d1
  pub keeps : Keeps d0 d1
  pub loads : Loads n.map end r d1 d2

own_loads : (c : Command) (n : MapNames) (end : ℕ) (r : Result LoadedMap VerifyEnding) (d0 d1 d2 : SiteState)
    → HasLoaded c n end r d0 d1 d2 → Loads c.mapfile end r d1 d2
own_loads c n end r d0 d1 d2 h =
    subst (λ (name : List ℕ). Loads name end r d1 d2) (ap (λ (m : MapNames). m.map) h.names) h.loads

-- the folder after the open
opened_folder : (c : Command) (n : MapNames) (end : ℕ) (r : Result LoadedMap VerifyEnding) (d0 d1 d2 : SiteState)
    → HasLoaded c n end r d0 d1 d2 → IsTrue d0.tells
    → after d1.start d1.calls ≡ opened (after d0.start d0.calls) c.outfile false (files_in d0 c.outfile)
opened_folder c n end r d0 d1 d2 h tells =
    ap (λ (f : Folder). after f d1.calls) (h.keeps.start tells)
    ∙ ap (after d0.start) (h.output.gained tells ∙ ap (λ (r : List Entry). d0.calls ++ r)
    (only_open c.outfile h.output.file h.output.calls h.output.did.1))
    ∙ after-append d0.start d0.calls (Returned (image_open c.outfile false) ∷ [])

-- the mapfile that was loaded is the one that stood there before
own_mapfile : (c : Command) (n : MapNames) (end : ℕ) (r : Result LoadedMap VerifyEnding) (d0 d1 d2 : SiteState)
    → (h : HasLoaded c n end r d0 d1 d2) → (file : Option File) → (IsTrue d1.tells → file ≡ files_in d1 c.mapfile)
    → IsTrue d0.tells → file ≡ files_in d0 c.mapfile
own_mapfile c n end r d0 d1 d2 h file own tells =
    own (rw h.keeps.tells tells)
    ∙ ap (λ (f : Folder). f.files c.mapfile) (opened_folder c n end r d0 d1 d2 h tells)
    ∙ ap (λ (files : List ℕ → Option File). files c.mapfile)
    (open_stands (after d0.start d0.calls) c.outfile (files_in d0 c.outfile))

own_found : (c : Command) (n : MapNames) (end : ℕ) (r : Result LoadedMap VerifyEnding) (d0 d1 d2 : SiteState)
    → (h : HasLoaded c n end r d0 d1 d2) → (p : Loads c.mapfile end r d1 d2) → (tells : IsTrue d0.tells)
    → record { output = h.output.file; mapfile = p.file } ≡ found_in c (files_in d0)
own_found c n end r d0 d1 d2 h p tells =
    ap (λ (f : Option File). record { output = f; mapfile = p.file }) (h.output.is_own tells)
    ∙ ap (λ (f : Option File). record { output = files_in d0 c.outfile; mapfile = f })
    (own_mapfile c n end r d0 d1 d2 h p.file p.is_own tells)

pub load_fails : (c : Command) (l : List ℕ) (n : MapNames) (end : ℕ) (e : VerifyEnding) (s0 s1 : SourceState)
    (d0 d1 d2 : SiteState) → HasInput c.infile end s0 s1 → HasLoaded c n end (Err e) d0 d1 d2
    → WentOn c l (Err e) (across s0 s1 d0 d2)
load_fails c l n end e s0 s1 d0 d1 d2 input h =
    let o : OpensOutput {T = Unit {0}} c.outfile (Ok tt) d0 d1 = h.output in
    let p : Loads c.mapfile end (Err e) d1 d2 = own_loads c n end (Err e) d0 d1 d2 h in
    let found : Found = record { output = o.file; mapfile = p.file } in
    record {
      outside = record { line = l; found = found; end = end; looks = [] };
      did = after_open c.infile (after_entries o.calls (only_calls p.calls));
      line_is = refl;
      agrees = record {
        opens = input.opened;
        end = input.all;
        reads = λ tells. input.same tells ∙ sym (append-nil s0.journal);
        right = λ tells. All-nil (IsFrom s0.bytes);
        found = own_found c n end (Err e) d0 d1 d2 h p;
        calls = λ tells. p.gained (rw h.keeps.tells tells) ∙ ap (λ (r : List Entry). r ++ p.calls) (o.gained tells)
            ∙ append_assoc d0.calls o.calls p.calls;
        seen = λ tells. refl;
      };
      works = inr (
        [],
        refl,
        through_then verify_faults (output_rows c.outfile o.file) (later_rows c p.file end) (Verifies c l found end []) e
            o.calls (only_calls p.calls) o.did.1
            (stopped_more verify_faults (load_rows c.mapfile p.file) (LookAt (PlacesRefused c.options end) ∷ Take ∷ [])
            (Verifies c l found end []) e (only_calls p.calls) p.did),
      );
    }

-- ---- after the load

-- what is done after a load that went on to its end
loaded_goes : (c : Command) (found : Found) (end : ℕ) (run : VerifyEnding → Deeds → Type 0) (e : VerifyEnding)
    (output load : List Entry) (d : Deeds) → WentThrough (output_rows c.outfile found.output) output
    → WentThrough (load_rows c.mapfile found.mapfile) load
    → Works verify_faults (LookAt (PlacesRefused c.options end) ∷ Take ∷ []) run e d
    → Works verify_faults (opened_rows c found end) run e
    (after_open c.infile (after_entries output (after_entries load d)))
loaded_goes c found end run e output load d t u w =
    inr (
      d.opens,
      refl,
      through_then verify_faults (output_rows c.outfile found.output) (later_rows c found.mapfile end) run e output
          (after_entries load d) t
          (through_then verify_faults (load_rows c.mapfile found.mapfile)
          (LookAt (PlacesRefused c.options end) ∷ Take ∷ []) run e load d u w),
    )

-- Something was done after the load, by looks and deeds after them.
record GoesOn (c : Command) (l : List ℕ) (end : ℕ) (result : Result Tally VerifyEnding) (looks : List Look)
    (found : Found) (d : Deeds) : Type 0 where
  works : (output load : List Entry) → WentThrough (output_rows c.outfile found.output) output
      → WentThrough (load_rows c.mapfile found.mapfile) load
      → DidWork c (record { line = l; found = found; end = end; looks = looks })
      (after_open c.infile (after_entries output (after_entries load d))) result

-- the image that is open after the load is the output, as it was
still_open : (file : Option File) → ((v : VerifyEnding) → OutputRefused file v → ⊥) → (d : Folder) (out : List ℕ)
    → d.files out ≡ file → (opened d out false file).image ≡ Some out
still_open None pass d out is = absurd (pass NoOutput (refl, refl))
still_open (Some f) pass d out is = refl

-- the calls of a load change nothing of what files read as
load_stands : (mapfile : List ℕ) (file : Option File) (calls : List Entry) (d : Folder)
    → WentThrough (load_rows mapfile file) calls → after d calls ≡ d
load_stands mapfile file calls d t =
    let barrier : List Call = barrier_calls (names_of mapfile) in
    let reads : AreMapReads t.2.0 = load_reads mapfile file t.2.0 t.2.2.begins in
    ap (after d) t.1 ∙ after-append d (map Returned barrier) t.0
    ∙ ap (after d) t.2.3 ∙ after-append d (map Returned t.2.0) t.2.1
    ∙ ap (λ (f : Folder). after f t.2.1) (reads_stand t.2.0 d reads)
    ∙ ap (after d) t.2.4.1

pub image_of_load : (c : Command) (n : MapNames) (end : ℕ) (r : Result LoadedMap VerifyEnding) (loaded : LoadedMap)
    (d0 d1 d2 : SiteState) → r ≡ Ok loaded → (h : HasLoaded c n end r d0 d1 d2) → Keeps d1 d2 → IsTrue d0.tells
    → image_in d2 ≡ files_in d0 c.outfile
image_of_load c n end (Err e) loaded d0 d1 d2 is h keeps tells = absurd (cc)
image_of_load c n end (Ok now) loaded d0 d1 d2 is h keeps tells =
    let o : OpensOutput {T = Unit {0}} c.outfile (Ok tt) d0 d1 = h.output in
    let p : Loads c.mapfile end (Ok now) d1 d2 = own_loads c n end (Ok now) d0 d1 d2 h in
    let before : Folder = after d0.start d0.calls in
    let told : IsTrue d1.tells = rw h.keeps.tells tells in
    let folder : after d2.start d2.calls ≡ opened before c.outfile false (files_in d0 c.outfile) =
    ap (λ (f : Folder). after f d2.calls) (keeps.start told)
    ∙ ap (after d1.start) (p.gained told) ∙ after-append d1.start d1.calls p.calls
    ∙ load_stands c.mapfile p.file p.calls (after d1.start d1.calls) p.did.1
    ∙ opened_folder c n end (Ok now) d0 d1 d2 h tells in
    let pass : (v : VerifyEnding) → OutputRefused (files_in d0 c.outfile) v → ⊥ =
    subst (λ (f : Option File). (v : VerifyEnding) → OutputRefused f v → ⊥) (o.is_own tells) o.did.1.2.0 in
    ap (λ (f : Folder). file_named f.image f.files) folder
    ∙ ap (λ (i : Option (List ℕ)). file_named i (opened before c.outfile false (files_in d0 c.outfile)).files)
    (still_open (files_in d0 c.outfile) pass before c.outfile refl)
    ∙ ap (λ (files : List ℕ → Option File). files c.outfile) (open_stands before c.outfile (files_in d0 c.outfile))

-- what the steps after the load did: their looks, and deeds, and what they tell
record After (c : Command) (l : List ℕ) (end : ℕ) (found : Found) (result : Result Tally VerifyEnding)
    (s1 s2 : SourceState) (d0 d2 d3 : SiteState) : Type 0 where
  looks : List Look
  calls : List Entry
  reads : List Reading
  goes : GoesOn c l end result looks found (record { opens = []; gain = record { calls = calls; reads = reads; times = [] } })
  journal : IsTrue s1.tells → s2.journal ≡ s1.journal ++ reads
  right : IsTrue s1.tells → All (IsFrom s1.bytes) reads
  grew : IsTrue d2.tells → d3.calls ≡ d2.calls ++ calls
  seen : IsTrue d0.tells
      → looks ≡ map (seen_in (bytes_of (files_in d0 c.outfile)) (place_by c)) (reads_of looks)
  opens : s2.opens ≡ s1.opens
  name : IsTrue s1.tells → s2.name ≡ s1.name

all_worked : (c : Command) (l : List ℕ) (n : MapNames) (end : ℕ) (loaded : LoadedMap) (result : Result Tally VerifyEnding)
    (s0 s1 s2 : SourceState) (d0 d1 d2 d3 : SiteState) → HasInput c.infile end s0 s1
    → (h : HasLoaded c n end (Ok loaded) d0 d1 d2) → d2.tells ≡ d0.tells
    → After c l end (record { output = h.output.file; mapfile = (own_loads c n end (Ok loaded) d0 d1 d2 h).file })
    result s1 s2 d0 d2 d3
    → WentOn c l result (across s0 s2 d0 d3)
all_worked c l n end loaded result s0 s1 s2 d0 d1 d2 d3 input h told b =
    let o : OpensOutput {T = Unit {0}} c.outfile (Ok tt) d0 d1 = h.output in
    let p : Loads c.mapfile end (Ok loaded) d1 d2 = own_loads c n end (Ok loaded) d0 d1 d2 h in
    let found : Found = record { output = o.file; mapfile = p.file } in
    let deeds : Deeds = record { opens = []; gain = record { calls = b.calls; reads = b.reads; times = [] } } in
    record {
      outside = record { line = l; found = found; end = end; looks = b.looks };
      did = after_open c.infile (after_entries o.calls (after_entries p.calls deeds));
      line_is = refl;
      agrees = record {
        opens = (b.opens ∙ input.opened.0, λ tells. b.name (rw input.keeps.tells tells) ∙ input.opened.1 tells);
        end = input.all;
        reads = λ tells. b.journal (rw input.keeps.tells tells)
            ∙ ap (λ (j : List Reading). j ++ b.reads) (input.same tells);
        right = λ tells. subst (λ (bytes : List ℕ). All (IsFrom bytes) b.reads) (input.keeps.bytes tells)
            (b.right (rw input.keeps.tells tells));
        found = own_found c n end (Ok loaded) d0 d1 d2 h p;
        calls = λ tells. b.grew (rw told tells)
            ∙ grew_both d0.calls d1.calls d2.calls b.calls o.calls p.calls (o.gained tells)
            (p.gained (rw h.keeps.tells tells));
        seen = b.seen;
      };
      works = b.goes.works o.calls p.calls o.did.1 p.did.1;
    }

-- nothing was done after it
abbrev still : Deeds
still = record { opens = []; gain = record { calls = []; reads = []; times = [] } }

nothing_after : (c : Command) (l : List ℕ) (end : ℕ) (found : Found) (e : VerifyEnding) (s1 s2 : SourceState)
    (d0 d2 d3 : SiteState) → s2 ≡ s1 → d3 ≡ d2
    → Works verify_faults (LookAt (PlacesRefused c.options end) ∷ Take ∷ []) (Verifies c l found end []) e still
    → After c l end found (Err e) s1 s2 d0 d2 d3
nothing_after c l end found e s1 s2 d0 d2 d3 same stands w = record {
  looks = [];
  calls = [];
  reads = [];
  goes = record { works = λ output load t u. loaded_goes c found end (Verifies c l found end []) e output load still t u w };
  journal = λ tells. ap (λ (s : SourceState). s.journal) same ∙ sym (append-nil s1.journal);
  right = λ tells. All-nil (IsFrom s1.bytes);
  grew = λ tells. ap (λ (d : SiteState). d.calls) stands ∙ sym (append-nil d2.calls);
  seen = λ tells. refl;
  opens = ap (λ (s : SourceState). s.opens) same;
  name = λ tells. ap (λ (s : SourceState). s.name) same;
}

-- each position has a place
places_pass : (o : VerifyOptions) (end : ℕ) → (IsBeyond o end → ⊥) → (v : VerifyEnding) → PlacesRefused o end v → ⊥
places_pass o end near v refused = near refused.0

-- a comparison over what the mapfile stands for
over_it : (c : Command) (l : List ℕ) (end : ℕ) (found : Found) (e : VerifyEnding) (statuses : List Status)
    (looks : List Look) (shown : MapState) (d : Deeds) → Stands found.mapfile end statuses (Some shown)
    → (IsBeyond c.options end → ⊥) → ComparesOver c l end statuses shown looks e d
    → Works verify_faults (LookAt (PlacesRefused c.options end) ∷ Take ∷ []) (Verifies c l found end looks) e d
over_it c l end found e statuses looks shown d stands near compares =
    inr (
      places_pass c.options end near,
      inr (record { statuses = statuses; shown = shown; stands = stands; compares = compares }),
    )

-- the looks of a comparison saw what the output has
own_looks : (c : Command) (looks : List Look) (image output : Option File) → image ≡ output
    → looks ≡ map (seen_in (bytes_of image) (place_by c)) (reads_of looks)
    → looks ≡ map (seen_in (bytes_of output) (place_by c)) (reads_of looks)
own_looks c looks image output same are =
    are ∙ ap (λ (f : Option File). map (seen_in (bytes_of f) (place_by c)) (reads_of looks)) same

pub compare_fails : (c : Command) (l : List ℕ) (n : MapNames) (end : ℕ) (loaded : LoadedMap) (new : List Status)
    (e : VerifyEnding) (s0 s1 s2 : SourceState) (d0 d1 d2 d3 : SiteState) → HasInput c.infile end s0 s1
    → HasLoaded c n end (Ok loaded) d0 d1 d2 → Keeps d1 d2 → SourceStays s1 s2
    → StopsComparing c.options end loaded.tiles.statuses new e (across s1 s2 d2 d3) → WentOn c l (Err e) (across s0 s2 d0 d3)
compare_fails c l n end loaded new e s0 s1 s2 d0 d1 d2 d3 input h keeps stays (Beyond far is same stands) =
    all_worked c l n end loaded (Err e) s0 s1 s2 d0 d1 d2 d3 input h (keeps.tells ∙ h.keeps.tells)
    (nothing_after c l end _ e s1 s2 d0 d2 d3 same stands
    (inl ((far, is), record { opens = refl; gain = record { calls = refl; reads = refl; times = refl } })))
compare_fails c l n end loaded new e s0 s1 s2 d0 d1 d2 d3 input h keeps stays (Starved near is same stands) =
    all_worked c l n end loaded (Err e) s0 s1 s2 d0 d1 d2 d3 input h (keeps.tells ∙ h.keeps.tells)
    (nothing_after c l end _ e s1 s2 d0 d2 d3 same stands
    (inr (
      places_pass c.options end near,
      inl (is, record { opens = refl; gain = record { calls = refl; reads = refl; times = refl } }),
    )))
compare_fails c l n end loaded new e s0 s1 s2 d0 d1 d2 d3 input h keeps stays (Halted halt near is compares) =
    let p : Loads c.mapfile end (Ok loaded) d1 d2 = own_loads c n end (Ok loaded) d0 d1 d2 h in
    let found : Found = record { output = h.output.file; mapfile = p.file } in
    let looks : List Look = compares.looks in
    let rest : Deeds = record {
      opens = [];
      gain = record { calls = compares.calls; reads = compares.reads; times = [] };
    } in
    all_worked c l n end loaded (Err e) s0 s1 s2 d0 d1 d2 d3 input h (keeps.tells ∙ h.keeps.tells)
    (record {
      looks = looks;
      calls = map Returned (look_calls (place_by c) looks) ++ compares.calls;
      reads = reads_of looks ++ compares.reads;
      goes = record {
        works = λ output load t u.
            loaded_goes c found end (Verifies c l found end looks) e output load (after_looks (place_by c) looks rest) t u
            (over_it c l end found e loaded.tiles.statuses looks loaded.state (after_looks (place_by c) looks rest) p.did.0
            near
            (record {
              asks = compares.asks;
              rest = rest;
              is = refl;
              ends = Halts halt is refl refl compares.ends;
            }));
      };
      journal = compares.journal;
      right = compares.right;
      grew = compares.record_;
      seen = λ tells.
          own_looks c looks (image_in d2) (files_in d0 c.outfile)
          (image_of_load c n end (Ok loaded) loaded d0 d1 d2 refl h keeps tells)
          (compares.seen (rw (keeps.tells ∙ h.keeps.tells) tells));
      opens = stays.opens;
      name = stays.name;
    })

-- the text that is saved
text_is : (l : List ℕ) (h : HeadingLines) (old new : List Status) (shown : MapState) (tally : Tally) (looks : List Look)
    → h ≡ heading_of l → new ≡ judged_by old looks → tally ≡ tally_of looks
    → printed h (shown_for shown tally.differing) new ≡ text_of l old shown looks
text_is l h old new shown tally looks heads map_is counts =
    ap (λ (x : HeadingLines). printed x (shown_for shown tally.differing) new) heads
    ∙ ap (λ (m : List Status). printed (heading_of l) (shown_for shown tally.differing) m) map_is
    ∙ ap (λ (t : Tally). printed (heading_of l) (shown_for shown t.differing) (judged_by old looks)) counts

-- a save under the mapfile's own names, of the text that is wanted
own_save : (c : Command) (n : MapNames) (text text' : List ℕ) (result : Result (Unit {0}) VerifyEnding)
    (old new : SiteState) → n ≡ names_of c.mapfile → text ≡ text' → SavesText n text result old new
    → SavesText (names_of c.mapfile) text' result old new
own_save c n text text' result old new names is s = rw (← names, ← is) s

-- what was counted, once it is saved
abbrev pub tally_or : {T : Type 0} → Tally → Result T VerifyEnding → Result Tally VerifyEnding
tally_or tally (Ok x) = Ok tally
tally_or tally (Err e) = Err e

-- how it ended, by the save
save_ends : (c : Command) (p : Comparison) (text : List ℕ) (looks : List Look) (tally : Tally) (e : VerifyEnding)
    (calls rest : List Entry) → calls ≡ map Returned (save_calls (names_of c.mapfile) text) ++ rest → rest ≡ []
    → tally ≡ tally_of looks → IsAnswer c.options.quiet tally e
    → Works verify_faults (Make (save_calls (names_of c.mapfile) text) ∷ []) (EndsSaved c.options.quiet (tally_of looks)) e
    (only_calls calls)
save_ends c p text looks tally e calls rest is none counts answer =
    inr (
      rest,
      is,
      (
        subst (λ (t : Tally). IsAnswer c.options.quiet t e) counts answer,
        record { opens = refl; gain = record { calls = none; reads = refl; times = refl } },
      ),
    )

-- the work went so for each answer that it may give
did_save : (c : Command) (l : List ℕ) (end : ℕ) (found : Found) (statuses : List Status) (shown : MapState) (tally : Tally)
    (looks : List Look) (result : Result (Unit {0}) VerifyEnding) (old new : SiteState)
    → Stands found.mapfile end statuses (Some shown) → (IsBeyond c.options end → ⊥)
    → (compares : (e : VerifyEnding) → (d : Deeds)
    → EndsAfter c (comparison_of c.options end statuses) (text_of l statuses shown looks) looks e d
    → ComparesOver c l end statuses shown looks e (after_looks (place_by c) looks d))
    → ((e : VerifyEnding) (calls : List Entry)
    → Works verify_faults (Make (save_calls (names_of c.mapfile) (text_of l statuses shown looks)) ∷ [])
    (EndsSaved c.options.quiet (tally_of looks)) e (only_calls calls)
    → EndsAfter c (comparison_of c.options end statuses) (text_of l statuses shown looks) looks e (only_calls calls))
    → tally ≡ tally_of looks
    → (s : SavesText (names_of c.mapfile) (text_of l statuses shown looks) result old new)
    → GoesOn c l end (tally_or tally result) looks found (after_looks (place_by c) looks (only_calls s.calls))
did_save c l end found statuses shown tally looks (Ok x) old new stands near compares saves counts s = record {
  works = λ output load t u. (
    counts,
    λ e answer.
        loaded_goes c found end (Verifies c l found end looks) e output load
        (after_looks (place_by c) looks (only_calls s.calls)) t u
        (over_it c l end found e statuses looks shown (after_looks (place_by c) looks (only_calls s.calls)) stands near
        (compares e (only_calls s.calls) (saves e s.calls
        (save_ends c (comparison_of c.options end statuses) (text_of l statuses shown looks) looks tally e s.calls s.did.1.0
        s.did.1.1 s.did.1.2 counts answer)))),
  );
}
did_save c l end found statuses shown tally looks (Err e) old new stands near compares saves counts s = record {
  works = λ output load t u.
      loaded_goes c found end (Verifies c l found end looks) e output load
      (after_looks (place_by c) looks (only_calls s.calls)) t u
      (over_it c l end found e statuses looks shown (after_looks (place_by c) looks (only_calls s.calls)) stands near
      (compares e (only_calls s.calls) (saves e s.calls
      (stopped_more verify_faults (Make (save_calls (names_of c.mapfile) (text_of l statuses shown looks)) ∷ []) []
      (EndsSaved c.options.quiet (tally_of looks)) e (only_calls s.calls) s.did))));
}

pub compare_saves : (c : Command) (l : List ℕ) (n : MapNames) (h : HeadingLines) (end : ℕ) (loaded : LoadedMap)
    (new : List Status) (tally : Tally) (result : Result (Unit {0}) VerifyEnding) (s0 s1 s2 : SourceState)
    (d0 d1 d2 d3 d4 : SiteState) → HasInput c.infile end s0 s1 → HasLoaded c n end (Ok loaded) d0 d1 d2
    → Keeps d1 d2 → SourceStays s1 s2 → SiteStays d2 d3 → (IsBeyond c.options end → ⊥) → h ≡ heading_of l
    → Compares (comparison_of c.options end loaded.tiles.statuses) loaded.tiles.statuses new (Ok tally) (across s1 s2 d2 d3)
    → SavesText n (printed h (shown_for loaded.state tally.differing) new) result d3 d4
    → WentOn c l (tally_or tally result) (across s0 s2 d0 d4)
compare_saves c l n h end loaded new tally result s0 s1 s2 d0 d1 d2 d3 d4 input loads keeps stays site_stays near heads
    compares saved =
    let p : Loads c.mapfile end (Ok loaded) d1 d2 = own_loads c n end (Ok loaded) d0 d1 d2 loads in
    let found : Found = record { output = loads.output.file; mapfile = p.file } in
    let looks : List Look = compares.looks in
    let old : List Status = loaded.tiles.statuses in
    let text : List ℕ = text_of l old loaded.state looks in
    let s : SavesText (names_of c.mapfile) text result d3 d4 =
    own_save c n (printed h (shown_for loaded.state tally.differing) new) text result d3 d4 loads.names
    (text_is l h old new loaded.state tally looks heads compares.ends.1 compares.ends.2) saved in
    all_worked c l n end loaded (tally_or tally result) s0 s1 s2 d0 d1 d2 d4 input loads (keeps.tells ∙ loads.keeps.tells)
    (record {
      looks = looks;
      calls = map Returned (look_calls (place_by c) looks) ++ s.calls;
      reads = reads_of looks ++ [];
      goes = did_save c l end found old loaded.state tally looks result d3 d4 p.did.0 near
          (λ e d ends. record { asks = compares.asks; rest = d; is = refl; ends = ends })
          (λ e calls works. Completes compares.ends.0 works) compares.ends.2 s;
      journal = λ tells. compares.journal tells
          ∙ ap (λ (r : List Reading). s1.journal ++ (reads_of looks ++ r)) compares.ends.3;
      right = λ tells.
          subst (λ (r : List Reading). All (IsFrom s1.bytes) (reads_of looks ++ r)) compares.ends.3 (compares.right tells);
      grew = λ tells.
          s.gained (rw site_stays.keeps.tells tells)
          ∙ ap (λ (r : List Entry). r ++ s.calls) (compares.record_ tells
          ∙ ap (λ (r : List Entry). d2.calls ++ (map Returned (look_calls (place_by c) looks) ++ r)) compares.ends.4
          ∙ ap (λ (r : List Entry). d2.calls ++ r) (append-nil (map Returned (look_calls (place_by c) looks))))
          ∙ append_assoc d2.calls (map Returned (look_calls (place_by c) looks)) s.calls;
      seen = λ tells.
          own_looks c looks (image_in d2) (files_in d0 c.outfile)
          (image_of_load c n end (Ok loaded) loaded d0 d1 d2 refl loads keeps tells)
          (compares.seen (rw (keeps.tells ∙ loads.keeps.tells) tells));
      opens = stays.opens;
      name = stays.name;
    })
