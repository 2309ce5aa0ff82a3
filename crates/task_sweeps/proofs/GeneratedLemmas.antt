-- What a generating did, by where it ended, whatever the objects tell.
use Rattle.std.proofs.Common.{◌≡◌, ℕ, ◌<◌, ◌^◌, Bool, true, false, IsTrue, List, [], ◌∷◌, ◌++◌, Option, Some, None, is_some, option_map, Ok, Err, refl, sym, ap, ◌∙◌, inl, inr, subst, append-nil}
use Rattle.std.proofs.lemmas.List.Elements.{All-nil}
use Rattle.block_list.specs.Tiled.{Tiled, statuses_in}
use Rattle.faulty_source.specs.SourceState.{SourceState}
use Rattle.crash_site.specs.Files.{File, bytes_of, file_named}
use Rattle.crash_site.specs.Folder.{Folder, opened, after}
use Rattle.crash_site.specs.Calls.{Entry, Done as Returned, image_open}
use Rattle.crash_site.specs.SiteState.{SiteState}
use Rattle.crash_site.specs.SiteChanges.{Keeps, Stays}
use Rattle.crash_site.proofs.LawLemmas.{after-append}
use Rattle.mapfile_save.specs.MapNames.{MapNames, names_of}
use Rattle.rescue_console.specs.ClockState.{ClockState}
use Rattle.rescue_console.specs.ConsoleState.{ConsoleState}
use Rattle.rescue_console.specs.Speaking.{SpeaksOn, out_pieces}
use Rattle.option_words.specs.declared.fault.UsageFault.TheVariants.{PlaceTooLarge}
use Rattle.rescue_console.proofs.SpeakingLemmas.{says_none}
use Rattle.rescue_rules.specs.declared.stop.RunEnd.{RunEnd}
use Rattle.rescue_rules.specs.declared.stop.RunEnd.TheVariants.{Done as Finished}
use Rattle.rescue_rules.specs.Setting.{Setting}
use Rattle.rescue_rules.specs.Laws.{AreThreeNames}
use Rattle.rescue_rules.specs.Across.{across}
use Rattle.sweep_rules.specs.Sweep.{Sweeper, Swept, generator}
use Rattle.sweep_rules.specs.SweepLaws.{AreGiven}
use Rattle.fill_generate.specs.Sweeping.{IsApart}
use Rattle.program_promise.specs.Work.{Open, Works}
use Rattle.program_promise.specs.Parts.{only_calls}
use Rattle.ddrescue_words.specs.Command.{Command}
use Rattle.task_files.specs.declared.ending.Ending.{Ending}
use Rattle.task_files.specs.declared.ending.Ending.TheVariants.{Usage, SourceFault, NoOutput}
use Rattle.task_files.specs.declared.ending.Which.TheVariants.{DomainMap}
use Rattle.task_files.specs.declared.load.LoadedMap.{LoadedMap}
use Rattle.task_files.specs.Names.{first_same_with_optional_map}
use Rattle.task_files.specs.Asked.{names_by, setting_of, ArePlacedBy, IsBeyond}
use Rattle.task_files.specs.Findings.{Findings}
use Rattle.task_files.specs.Work.{rescue_faults, files_rows}
use Rattle.task_files.specs.Steps.{Loads, OpensOutput, ReadsMap, maps_of}
use Rattle.task_sweeps.specs.Modes.{ThenSweep}
use Rattle.task_sweeps.specs.SweepSteps.{DidGenerate, WorkedGenerate}
use Rattle.task_files.proofs.ApartLemmas.{three_names}
use Rattle.task_files.proofs.ListingLemmas.{listed_if}
use Rattle.task_files.proofs.OpenedLemmas.{HasInput, HasLoaded, IsNotOpen, only_open, own_loads, placed_passes}
use Rattle.task_files.proofs.WorkedLemmas.{mode_by}
use Rattle.task_sweeps.proofs.FilesLemmas.{output_stops, load_stops, files_then, load_stands}
use Rattle.task_sweeps.proofs.SweepOutside.{AfterMap, outside_after, is_outside, named_then, short_after, unread_outside, is_unread, named_stops, only_unread}
use Rattle.task_sweeps.proofs.SweepFiles.{HasRead, none_read, after_unopened, after_output, after_load, after_files}
use Rattle.task_sweeps.proofs.FilledLemmas.{sweep_silent, sweep_unread}

-- ---- the output that was opened

-- this file is open, under this name
record IsOpenFile (out : List ℕ) (file : Option File) (d : Folder) : Type 0 where
  image : d.image ≡ Some out
  is : file_named d.image d.files ≡ file

opened_there : (d : Folder) (out : List ℕ) (file : Option File) → (file ≡ None → ⊥) → d.files out ≡ file
    → IsOpenFile out file (opened d out false file)
opened_there d out None never own = absurd (never refl)
opened_there d out (Some f) never own = record { image = refl; is = own }

open_there : (d : Folder) (out : List ℕ) (file : Option File) → (file ≡ None → ⊥) → d.files out ≡ file
    → IsOpenFile out file (after d (Returned (image_open out false) ∷ []))
open_there d out file never own =
    subst (λ (o : Option File). IsOpenFile out file (opened d out false o)) (sym own) (opened_there d out file never own)

-- after the load the output reads as it did before it was opened
open_after : (c : Command) (n : Option MapNames) (limit : ℕ) (start : LoadedMap) (d0 d1 d2 : SiteState)
    → (h : HasLoaded false c n limit (Ok start) d0 d1 d2) → Keeps d1 d2 → IsTrue d0.tells
    → IsOpenFile c.outfile h.output.file (after d2.start d2.calls)
open_after c n limit start d0 d1 d2 h keeps t =
    let l : Loads c.mapfile limit (Ok start) d1 d2 = own_loads false c n limit (Ok start) d0 d1 d2 h in
    let told : IsTrue d1.tells = rw h.keeps.tells t in
    let d : Folder = after d0.start d0.calls in
    let opens : List Entry = Returned (image_open c.outfile false) ∷ [] in
    let only : h.output.calls ≡ opens = only_open false c.options.forced c.outfile h.output.file h.output.calls h.output.did.1 in
    let is : after d2.start d2.calls ≡ after d opens =
    ap (λ (f : Folder). after f d2.calls) (keeps.start told ∙ h.keeps.start t)
    ∙ ap (after d0.start) (l.gained told) ∙ after-append d0.start d1.calls l.calls
    ∙ load_stands c.mapfile l.file l.calls l.did.1 (after d0.start d1.calls)
    ∙ ap (after d0.start) (h.output.gained t ∙ ap (λ (r : List Entry). d0.calls ++ r) only)
    ∙ after-append d0.start d0.calls opens in
    subst (IsOpenFile c.outfile h.output.file) (sym is)
    (open_there d c.outfile h.output.file (λ none. h.output.did.1.2.0 NoOutput (none, refl)) (sym (h.output.is_own t)))

-- it is no file of the mapfile
has_names : (mapfile : Option (List ℕ)) → is_some mapfile ≡ true → is_some (option_map names_of mapfile) ≡ true
has_names None named = cc
has_names (Some name) named = refl

output_apart : (s : Setting) (d : SiteState) → AreThreeNames s → (after d.start d.calls).image ≡ Some s.outfile
    → IsApart s.names d
output_apart s d three image name is =
    let same : Some name ≡ Some s.outfile = sym is ∙ image in
    let here : name ≡ s.outfile = cc in
    (λ other. three.map (sym here ∙ other), λ other. three.draft (sym here ∙ other))

-- ---- where it ended

module _ (c : Command) (line : List ℕ) (heard : Bool)
    (different : first_same_with_optional_map c.infile c.outfile (names_by c) ≡ None) where
  -- at the read of the map that an option names
  pub generate_unread : (e : Ending) (source : SourceState) (old new : SiteState) (clock : ClockState) (x : ConsoleState)
      → ReadsMap DomainMap (mode_by c) c.domain_map (Err e) old new
      → WorkedGenerate c line heard heard e (across source source old new clock clock x x)
  generate_unread e source old new clock x r =
      let w : Findings = unread_outside c e source old new clock x r in
      let s : Setting = setting_of c line w.end w.maps in
      record {
        outside = w;
        is_outside = is_unread c e source old new clock x r;
        pieces = [];
        end = Finished;
        works = named_stops c e source old new clock x r different (Open c.infile ∷ files_rows false c w.found w.end)
            (ThenSweep s (generator s) w.found.mapfile [] Finished []);
        short = inl (only_unread c e source old new clock x r);
        given = λ t. All-nil _;
        silent = λ none. (refl, refl);
        says = says_none heard x;
      }

  module _ (domain : Option Tiled) (s0 : SourceState) (old mid : SiteState)
      (f : ReadsMap DomainMap (mode_by c) c.domain_map (Ok domain) old mid) (stays : Stays old mid) where
    -- what was done after it
    after_map : (heard' : Bool) (e : Ending) (s1 : SourceState) (last : SiteState) (k k' : ClockState)
        (x x' : ConsoleState) (b : AfterMap c (across s0 s1 mid last k k' x x')) (pieces : List Swept) (end : RunEnd)
        → (let w = outside_after c domain s0 s1 old mid last k k' x x' f stays b in
        let s = setting_of c line w.end w.maps in
        Works rescue_faults (Open c.infile ∷ files_rows false c w.found w.end)
        (ThenSweep s (generator s) w.found.mapfile pieces end w.lines) e b.did)
        → (let w = outside_after c domain s0 s1 old mid last k k' x x' f stays b in
        IsTrue mid.tells → AreGiven (setting_of c line w.end w.maps) (bytes_of b.output) pieces)
        → (b.did.gain.times ≡ [] → (b.lines ≡ []) × (pieces ≡ [])) → SpeaksOn (out_pieces b.lines) heard heard' x x'
        → WorkedGenerate c line heard heard' e (across s0 s1 old last k k' x x')
    after_map heard' e s1 last k k' x x' b pieces end works given silent says =
        let w : Findings = outside_after c domain s0 s1 old mid last k k' x x' f stays b in
        let s : Setting = setting_of c line w.end w.maps in
        record {
          outside = w;
          is_outside = is_outside c domain s0 s1 old mid last k k' x x' f stays b;
          pieces = pieces;
          end = end;
          works = named_then c domain s0 s1 old mid last k k' x x' f stays b different
              (Open c.infile ∷ files_rows false c w.found w.end)
              (ThenSweep s (generator s) w.found.mapfile pieces end w.lines) e works;
          short = short_after c domain s0 s1 old mid last k k' x x' f stays b;
          given = λ t. given (rw stays.keeps.tells t);
          silent = silent;
          says = says;
        }

    -- the input couldn't be opened
    pub generate_unopened : (s1 : SourceState) (k : ClockState) (x : ConsoleState)
        → (IsTrue s0.tells → s1.journal ≡ s0.journal) → IsNotOpen c.infile s0 s1
        → WorkedGenerate c line heard heard SourceFault (across s0 s1 old mid k k x x)
    generate_unopened s1 k x same opens =
        after_map heard SourceFault s1 mid k k x x (after_unopened c s0 s1 mid k x same opens) [] Finished
        (inl (refl, refl, record { calls = refl; reads = refl; times = refl })) (λ t. All-nil _) (λ none. (refl, refl))
        (says_none heard x)

    module _ (end : ℕ) (s1 : SourceState) (k : ClockState) (x : ConsoleState) (input : HasInput c.infile end s0 s1) where
      has_read : HasRead c.infile end [] s0 s1
      has_read = none_read c.infile end s0 s1 input

      -- the output was refused, or couldn't be opened
      pub generate_output : (e : Ending) (d1 : SiteState)
          → OpensOutput {T = Unit {0}} false c.options.forced c.outfile (Err e) mid d1
          → WorkedGenerate c line heard heard e (across s0 s1 old d1 k k x x)
      generate_output e d1 o =
          let b : AfterMap c (across s0 s1 mid d1 k k x x) = after_output c end [] s0 s1 k x has_read false e mid d1 o in
          let w : Findings = outside_after c domain s0 s1 old mid d1 k k x x f stays b in
          let s : Setting = setting_of c line end w.maps in
          after_map heard e s1 d1 k k x x b [] Finished
          (inr (
            [],
            refl,
            output_stops c w.found end (ThenSweep s (generator s) w.found.mapfile [] Finished []) e false o.calls o.did,
          ))
          (λ t. All-nil _) (λ none. (refl, refl)) (says_none heard x)

      -- the load of the mapfile stopped
      pub generate_load : (n : Option MapNames) (e : Ending) (d1 d2 : SiteState) → HasLoaded false c n end (Err e) mid d1 d2
          → WorkedGenerate c line heard heard e (across s0 s1 old d2 k k x x)
      generate_load n e d1 d2 h =
          let l : Loads c.mapfile end (Err e) d1 d2 = own_loads false c n end (Err e) mid d1 d2 h in
          let b : AfterMap c (across s0 s1 mid d2 k k x x) =
          after_load c end [] s0 s1 k x has_read false n end e mid d1 d2 h in
          let w : Findings = outside_after c domain s0 s1 old mid d2 k k x x f stays b in
          let s : Setting = setting_of c line end w.maps in
          after_map heard e s1 d2 k k x x b [] Finished
          (inr (
            [],
            refl,
            load_stops c w.found end (ThenSweep s (generator s) w.found.mapfile [] Finished []) e false h.output.calls
                l.calls h.output.did.1 l.did,
          ))
          (λ t. All-nil _) (λ none. (refl, refl)) (says_none heard x)

      module _ (n : Option MapNames) (start : LoadedMap) (d1 d2 : SiteState) (h : HasLoaded false c n end (Ok start) mid d1 d2)
          (told : d2.tells ≡ mid.tells) where
        -- a position has no place in the output
        pub generate_unplaced : IsBeyond c.options end
            → WorkedGenerate c line heard heard (Usage PlaceTooLarge) (across s0 s1 old d2 k k x x)
        generate_unplaced far =
            let e : Ending = Usage PlaceTooLarge in
            let l : Loads c.mapfile end (Ok start) d1 d2 = own_loads false c n end (Ok start) mid d1 d2 h in
            let b : AfterMap c (across s0 s1 mid d2 k k x x) =
            after_files c end [] s0 s1 k x has_read false n end start mid d1 d2 d2 k x [] [] [] h told
            (λ t. sym (append-nil d2.calls)) (λ t. sym (append-nil k.readings)) (All-nil (λ t. t < 2 ^ 64)) in
            let w : Findings = outside_after c domain s0 s1 old mid d2 k k x x f stays b in
            let s : Setting = setting_of c line end w.maps in
            after_map heard e s1 d2 k k x x b [] Finished
            (inr (
              [],
              refl,
              files_then c w.found end (ThenSweep s (generator s) w.found.mapfile [] Finished []) e false h.output.calls
                  l.calls (only_calls []) h.output.did.1 l.did.1
                  (inl ((far, refl), record { opens = refl; gain = record { calls = refl; reads = refl; times = refl } })),
            ))
            (λ t. All-nil _) (λ none. (refl, refl)) (says_none heard x)

        -- a sweep came after it, which may not have begun
        pub generate_goes : (heard' : Bool) (e : Ending) (s2 : SourceState) (d3 : SiteState) (k' : ClockState) (x' : ConsoleState)
            → is_some c.mapfile ≡ true → Keeps d1 d2 → ArePlacedBy c.options end
            → DidGenerate (setting_of c line end
            (maps_of (statuses_in domain) None (listed_if c.options.complete_only start.first start.listed_end)))
            start.tiles.statuses start.state heard heard' e (across s1 s2 d2 d3 k k' x x')
            → WorkedGenerate c line heard heard' e (across s0 s2 old d3 k k' x x')
        generate_goes heard' e s2 d3 k' x' named keeps placed did =
            let ran = did.did in
            let l : Loads c.mapfile end (Ok start) d1 d2 = own_loads false c n end (Ok start) mid d1 d2 h in
            let b : AfterMap c (across s0 s1 mid d3 k k' x x') =
            after_files c end [] s0 s1 k x has_read false n end start mid d1 d2 d3 k' x' ran.gain.calls ran.gain.times
            ran.lines h told ran.gains.calls ran.gains.times ran.gains.fit in
            let w : Findings = outside_after c domain s0 s1 old mid d3 k k' x x' f stays b in
            let s : Setting = setting_of c line end w.maps in
            let v : Sweeper = generator s in
            subst (λ (s : SourceState). WorkedGenerate c line heard heard' e (across s0 s old d3 k k' x x'))
            (sym ran.gains.unread)
            (after_map heard' e s1 d3 k k' x x' b ran.pieces ran.end
            (inr (
              [],
              refl,
              files_then c w.found end (ThenSweep s v w.found.mapfile ran.pieces ran.end ran.lines) e false h.output.calls
                  l.calls
                  (record { opens = []; gain = record { calls = ran.gain.calls; reads = []; times = ran.gain.times } })
                  h.output.did.1 l.did.1
                  (inr (
                    placed_passes c.options end placed,
                    record {
                      opens = refl;
                      statuses = start.tiles.statuses;
                      state = start.state;
                      stands = l.did.0.stands;
                      sweeps = sweep_unread s v start.tiles.statuses start.state ran.pieces ran.end ran.lines e ran.gain
                          ran.gains.reads ran.sweeps;
                    },
                  )),
            ))
            (λ t.
            let file : IsOpenFile c.outfile h.output.file (after d2.start d2.calls) =
            open_after c n end start mid d1 d2 h keeps t in
            let three : AreThreeNames s = three_names c line end w.maps (has_names c.mapfile named) different in
            subst (λ (o : Option File). AreGiven s (bytes_of o) ran.pieces) file.is
            (did.given (rw told t) (output_apart s d2 three file.image)))
            (sweep_silent s v start.tiles.statuses start.state ran.pieces ran.end ran.lines e ran.gain ran.sweeps) ran.says)
