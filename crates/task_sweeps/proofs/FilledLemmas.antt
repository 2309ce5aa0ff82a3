-- What a filling did, by where it ended, whatever the objects tell.
use Rattle.std.proofs.Common.{◌≡◌, ℕ, ◌<◌, ◌^◌, Bool, true, IsTrue, List, [], ◌∷◌, ◌++◌, map, length, Option, None, Result, Ok, Err, refl, sym, inl, inr, subst, arith, append-nil}
use Rattle.std.proofs.lemmas.List.Elements.{All-nil}
use Rattle.block_list.specs.declared.status.Status.{Status}
use Rattle.block_list.specs.Tiled.{Tiled, statuses_in}
use Rattle.block_list.specs.declared.types.TypeSet.{TypeSet}
use Rattle.mapfile_text.specs.declared.state.MapState.{MapState}
use Rattle.faulty_source.specs.Journal.{Reading}
use Rattle.faulty_source.specs.SourceState.{SourceState}
use Rattle.faulty_source.specs.SourceChanges.{Stays as SourceStays}
use Rattle.crash_site.specs.Calls.{Entry}
use Rattle.crash_site.specs.SiteState.{SiteState}
use Rattle.crash_site.specs.SiteChanges.{Stays}
use Rattle.mapfile_save.specs.MapNames.{MapNames}
use Rattle.rescue_console.specs.ClockState.{ClockState}
use Rattle.rescue_console.specs.ConsoleState.{ConsoleState}
use Rattle.rescue_console.specs.Speaking.{SpeaksOn, out_pieces}
use Rattle.option_words.specs.declared.fault.UsageFault.TheVariants.{PlaceTooLarge}
use Rattle.rescue_console.proofs.SpeakingLemmas.{says_none}
use Rattle.rescue_rules.specs.declared.stop.RunEnd.{RunEnd}
use Rattle.rescue_rules.specs.declared.stop.RunEnd.TheVariants.{Done as Finished}
use Rattle.rescue_rules.specs.Setting.{Setting}
use Rattle.rescue_rules.specs.Events.{began_at}
use Rattle.rescue_rules.specs.Work.{Gain}
use Rattle.rescue_rules.specs.Across.{across}
use Rattle.sweep_rules.specs.Sweep.{Sweeper, Swept, filler}
use Rattle.program_promise.specs.Work.{Deeds, WorkStep, Take, Look, Open, Works}
use Rattle.program_promise.specs.Parts.{only_calls}
use Rattle.ddrescue_words.specs.Options.{cluster_of}
use Rattle.ddrescue_words.specs.Command.{Command}
use Rattle.task_files.specs.declared.ending.Ending.{Ending}
use Rattle.task_files.specs.declared.ending.Ending.TheVariants.{Usage, SourceFault, EmptyPattern, NoMemory}
use Rattle.task_files.specs.declared.ending.Which.TheVariants.{DomainMap}
use Rattle.task_files.specs.declared.load.LoadedMap.{LoadedMap}
use Rattle.task_files.specs.Names.{first_same_with_optional_map}
use Rattle.task_files.specs.Asked.{names_by, ArePlacedBy, IsBeyond}
use Rattle.task_files.specs.Findings.{Findings}
use Rattle.task_files.specs.Refusals.{PatternEmpty}
use Rattle.task_files.specs.Work.{rescue_faults, files_rows}
use Rattle.task_files.specs.Steps.{Loads, OpensOutput, ReadsMap, maps_of}
use Rattle.task_sweeps.specs.Pattern.{PatternRead, TakesPattern, ThenPattern, IsLost, IsShort, IsRead}
use Rattle.task_sweeps.specs.Modes.{IsMapEnd, MaySweep, ThenSweep, fill_setting}
use Rattle.task_sweeps.specs.SweepSteps.{DidSweep, WorkedFill}
use Rattle.task_files.proofs.ListingLemmas.{listed_if}
use Rattle.task_files.proofs.OpenedLemmas.{HasInput, HasLoaded, IsNotOpen, own_loads, placed_passes}
use Rattle.task_files.proofs.WorkedLemmas.{mode_by}
use Rattle.task_sweeps.proofs.FilesLemmas.{output_stops, load_stops, files_then}
use Rattle.task_sweeps.proofs.SweepOutside.{AfterMap, outside_after, is_outside, named_then, unread_outside, is_unread, named_stops}
use Rattle.task_sweeps.proofs.SweepFiles.{HasRead, then_read, own_end, some_end, deeds_with, after_unopened, after_input, after_output, after_load, after_files}

-- ---- the pattern

-- the steps of a filling between the map that an option names and the output
abbrev pub pattern_rows : Command → (end : ℕ) → List (WorkStep Ending)
pattern_rows c end = Open c.infile ∷ Look (PatternEmpty end) ∷ Take ∷ []

module _ (c : Command) (end : ℕ) (s1 s2 : SourceState) where
  -- it wasn't read whole
  pub pattern_stops : (e : Ending) (buffer : List ℕ) (next : Ending → Deeds → Type 0)
      (p : TakesPattern (cluster_of c.options) end (Err e) s1 s2)
      → Works rescue_faults (pattern_rows c end) (ThenPattern (cluster_of c.options) end buffer next) e
      (deeds_with c.infile [] p.reads [])
  pattern_stops e buffer next p =
      elim p.comes [
        | inl h ↦
            let is : e ≡ EmptyPattern = let both : Err e ≡ Err EmptyPattern = h.1 in cc in
            inr ([], refl, inl ((h.0, is), record { opens = refl; gain = record { calls = refl; reads = h.2; times = refl } }))
        | inr (inl h) ↦
            let is : e ≡ NoMemory = let both : Err e ≡ Err NoMemory = h.1 in cc in
            inr (
              [],
              refl,
              inr (
                λ v refused. absurd (omega (arith, h.0, refused.0)),
                inl (is, record { opens = refl; gain = record { calls = refl; reads = h.2; times = refl } }),
              ),
            )
        | inr (inr (some, inl h)) ↦ inr (
          [],
          refl,
          inr (
            λ v refused. absurd (omega (arith, some, refused.0)),
            inr (IsLost h.0 (record { opens = refl; gain = record { calls = refl; reads = h.1; times = refl } })),
          ),
        )
        | inr (inr (some, inr h)) ↦ inr (
          [],
          refl,
          inr (
            λ v refused. absurd (omega (arith, some, refused.0)),
            inr (IsShort h.0 h.2 h.3 h.4 (record {
              reads = h.1;
              rest = record { opens = refl; gain = record { calls = refl; reads = refl; times = refl } };
            })),
          ),
        )
      ]

  -- it was, into this buffer
  taken : (buffer : List ℕ) (p : TakesPattern (cluster_of c.options) end (Ok buffer) s1 s2)
      → (0 < end) × PatternRead (cluster_of c.options) end p.reads (Ok buffer)
  taken buffer p =
      elim p.comes [
        | inl h ↦ let never : Ok buffer ≡ Err EmptyPattern = h.1 in absurd (cc)
        | inr (inl h) ↦ let never : Ok buffer ≡ Err NoMemory = h.1 in absurd (cc)
        | inr (inr h) ↦ h
      ]

  pub pattern_then : (e : Ending) (buffer : List ℕ) (next : Ending → Deeds → Type 0) (calls : List Entry) (times : List ℕ)
      (p : TakesPattern (cluster_of c.options) end (Ok buffer) s1 s2)
      → next e (record { opens = []; gain = record { calls = calls; reads = []; times = times } })
      → Works rescue_faults (pattern_rows c end) (ThenPattern (cluster_of c.options) end buffer next) e
      (deeds_with c.infile calls p.reads times)
  pattern_then e buffer next calls times p h =
      let t : (0 < end) × PatternRead (cluster_of c.options) end p.reads (Ok buffer) = taken buffer p in
      inr (
        [],
        refl,
        inr (
          λ v refused. absurd (omega (arith, t.0, refused.0)),
          inr (IsRead t.1.0 [] t.1.2 t.1.3 t.1.4 t.1.1 h),
        ),
      )

-- a cluster by another name
pub takes_as : (m n end : ℕ) (result : Result (List ℕ) Ending) (s s' : SourceState) → m ≡ n → TakesPattern m end result s s'
    → TakesPattern n end result s s'
takes_as m n end result s s' same p = subst (λ (k : ℕ). TakesPattern k end result s s') same p

-- the buffer as it is handed on
pub takes_into : (n end : ℕ) (xs ys : List ℕ) (s s' : SourceState) → ys ≡ xs → TakesPattern n end (Ok xs) s s'
    → TakesPattern n end (Ok ys) s s'
takes_into n end xs ys s s' same p = subst (λ (b : List ℕ). TakesPattern n end (Ok b) s s') (sym same) p

-- ---- where it ended

-- where no clock was read nothing was said, and no piece was done
pub sweep_silent : (s : Setting) (w : Sweeper) (statuses : List Status) (state : Option MapState) (pieces : List Swept)
    (end : RunEnd) (lines : List (List ℕ)) (e : Ending) (g : Gain) → MaySweep s w statuses state pieces end lines e g
    → g.times ≡ [] → (lines ≡ []) × (pieces ≡ [])
sweep_silent s w statuses state pieces end lines e g (inl h) none = (h.0.silent, h.1)
sweep_silent s w statuses state pieces end lines e g (inr h) none =
    let read : g.times ≡ began_at g.times ∷ map (λ (v : Swept). v.after) h.sweeps.events = h.sweeps.times in absurd (cc)

-- a sweep reads nothing of its input
pub sweep_unread : (s : Setting) (w : Sweeper) (statuses : List Status) (state : Option MapState) (pieces : List Swept)
    (end : RunEnd) (lines : List (List ℕ)) (e : Ending) (g : Gain) → g.reads ≡ []
    → MaySweep s w statuses state pieces end lines e g
    → MaySweep s w statuses state pieces end lines e (record { calls = g.calls; reads = []; times = g.times })
sweep_unread s w statuses state pieces end lines e g none may =
    let P : List Reading → Type 0 = λ reads.
    MaySweep s w statuses state pieces end lines e (record { calls = g.calls; reads = reads; times = g.times }) in
    subst P none may

-- what follows the pattern
abbrev pub Onward : (types : TypeSet) → Command → (line : List ℕ) → Findings → (top : ℕ) → (buffer : List ℕ) → List Swept
    → RunEnd → Ending → Deeds → Type 0
Onward types c line w top buffer pieces end =
    let s = fill_setting c line top w.maps in
    Works rescue_faults (files_rows true c w.found top)
    (ThenSweep s (filler s types buffer) w.found.mapfile pieces end w.lines)

abbrev Patterned : (types : TypeSet) → Command → (line : List ℕ) → Findings → (top : ℕ) → (buffer : List ℕ) → List Swept
    → RunEnd → Ending → Deeds → Type 0
Patterned types c line w top buffer pieces end =
    ThenPattern (cluster_of c.options) w.end buffer (Onward types c line w top buffer pieces end)

module _ (types : TypeSet) (c : Command) (line : List ℕ) (heard : Bool)
    (different : first_same_with_optional_map c.infile c.outfile (names_by c) ≡ None) where
  -- at the read of the map that an option names
  pub fill_unread : (e : Ending) (source : SourceState) (old new : SiteState) (clock : ClockState) (x : ConsoleState)
      → ReadsMap DomainMap (mode_by c) c.domain_map (Err e) old new
      → WorkedFill types c line heard heard e (across source source old new clock clock x x)
  fill_unread e source old new clock x r =
      let w : Findings = unread_outside c e source old new clock x r in
      let some : (top : ℕ) × IsMapEnd w.found.mapfile top = some_end w.found.mapfile in
      record {
        outside = w;
        is_outside = is_unread c e source old new clock x r;
        top = some.0;
        tops = some.1;
        buffer = [];
        pieces = [];
        end = Finished;
        works = named_stops c e source old new clock x r different (pattern_rows c w.end)
            (Patterned types c line w some.0 [] [] Finished);
        silent = λ none. (refl, refl);
        says = says_none heard x;
      }

  module _ (domain : Option Tiled) (s0 : SourceState) (old mid : SiteState)
      (f : ReadsMap DomainMap (mode_by c) c.domain_map (Ok domain) old mid) (stays : Stays old mid) where
    -- what was done after it
    after_map : (heard' : Bool) (e : Ending) (s1 : SourceState) (last : SiteState) (k k' : ClockState)
        (x x' : ConsoleState) (b : AfterMap c (across s0 s1 mid last k k' x x')) (top : ℕ) (buffer : List ℕ)
        (pieces : List Swept) (end : RunEnd) → IsMapEnd b.mapfile top
        → Works rescue_faults (pattern_rows c b.end)
        (Patterned types c line (outside_after c domain s0 s1 old mid last k k' x x' f stays b) top buffer pieces end) e b.did
        → (b.did.gain.times ≡ [] → (b.lines ≡ []) × (pieces ≡ [])) → SpeaksOn (out_pieces b.lines) heard heard' x x'
        → WorkedFill types c line heard heard' e (across s0 s1 old last k k' x x')
    after_map heard' e s1 last k k' x x' b top buffer pieces end tops works silent says =
        let w : Findings = outside_after c domain s0 s1 old mid last k k' x x' f stays b in
        record {
          outside = w;
          is_outside = is_outside c domain s0 s1 old mid last k k' x x' f stays b;
          top = top;
          tops = tops;
          buffer = buffer;
          pieces = pieces;
          end = end;
          works = named_then c domain s0 s1 old mid last k k' x x' f stays b different (pattern_rows c b.end)
              (Patterned types c line w top buffer pieces end) e works;
          silent = silent;
          says = says;
        }

    -- the input couldn't be opened
    pub fill_unopened : (s1 : SourceState) (k : ClockState) (x : ConsoleState)
        → (IsTrue s0.tells → s1.journal ≡ s0.journal) → IsNotOpen c.infile s0 s1
        → WorkedFill types c line heard heard SourceFault (across s0 s1 old mid k k x x)
    fill_unopened s1 k x same opens =
        let b : AfterMap c (across s0 s1 mid mid k k x x) = after_unopened c s0 s1 mid k x same opens in
        let some : (top : ℕ) × IsMapEnd b.mapfile top = some_end b.mapfile in
        after_map heard SourceFault s1 mid k k x x b some.0 [] [] Finished some.1
        (inl (refl, refl, record { calls = refl; reads = refl; times = refl })) (λ none. (refl, refl)) (says_none heard x)

    module _ (end : ℕ) (s1 s2 : SourceState) (k : ClockState) (x : ConsoleState) (input : HasInput c.infile end s0 s1)
        (stands : SourceStays s1 s2) where
      -- the pattern wasn't read whole
      pub fill_unpatterned : (e : Ending) → TakesPattern (cluster_of c.options) end (Err e) s1 s2
          → WorkedFill types c line heard heard e (across s0 s2 old mid k k x x)
      fill_unpatterned e p =
          let i : HasRead c.infile end p.reads s0 s2 = then_read c.infile end p.reads s0 s1 s2 input stands p.gained in
          let b : AfterMap c (across s0 s2 mid mid k k x x) = after_input c end p.reads s0 s2 k x i mid in
          let w : Findings = outside_after c domain s0 s2 old mid mid k k x x f stays b in
          let some : (top : ℕ) × IsMapEnd b.mapfile top = some_end b.mapfile in
          after_map heard e s2 mid k k x x b some.0 [] [] Finished some.1
          (pattern_stops c end s1 s2 e [] (Onward types c line w some.0 [] [] Finished) p) (λ none. (refl, refl))
          (says_none heard x)

      module _ (buffer : List ℕ) (p : TakesPattern (cluster_of c.options) end (Ok buffer) s1 s2) where
        has_read : HasRead c.infile end p.reads s0 s2
        has_read = then_read c.infile end p.reads s0 s1 s2 input stands p.gained

        -- the output was refused, or couldn't be opened
        pub fill_output : (e : Ending) (d1 : SiteState)
            → OpensOutput {T = Unit {0}} true c.options.forced c.outfile (Err e) mid d1
            → WorkedFill types c line heard heard e (across s0 s2 old d1 k k x x)
        fill_output e d1 o =
            let b : AfterMap c (across s0 s2 mid d1 k k x x) =
            after_output c end p.reads s0 s2 k x has_read true e mid d1 o in
            let w : Findings = outside_after c domain s0 s2 old mid d1 k k x x f stays b in
            let some : (top : ℕ) × IsMapEnd b.mapfile top = some_end b.mapfile in
            let s : Setting = fill_setting c line some.0 w.maps in
            after_map heard e s2 d1 k k x x b some.0 buffer [] Finished some.1
            (pattern_then c end s1 s2 e buffer (Onward types c line w some.0 buffer [] Finished) o.calls [] p
            (output_stops c w.found some.0 (ThenSweep s (filler s types buffer) w.found.mapfile [] Finished []) e true o.calls
            o.did))
            (λ none. (refl, refl)) (says_none heard x)

        -- the load of the mapfile stopped
        pub fill_load : (n : Option MapNames) (e : Ending) (d1 d2 : SiteState) → HasLoaded true c n 0 (Err e) mid d1 d2
            → WorkedFill types c line heard heard e (across s0 s2 old d2 k k x x)
        fill_load n e d1 d2 h =
            let l : Loads c.mapfile 0 (Err e) d1 d2 = own_loads true c n 0 (Err e) mid d1 d2 h in
            let b : AfterMap c (across s0 s2 mid d2 k k x x) =
            after_load c end p.reads s0 s2 k x has_read true n 0 e mid d1 d2 h in
            let w : Findings = outside_after c domain s0 s2 old mid d2 k k x x f stays b in
            let some : (top : ℕ) × IsMapEnd b.mapfile top = some_end b.mapfile in
            let s : Setting = fill_setting c line some.0 w.maps in
            after_map heard e s2 d2 k k x x b some.0 buffer [] Finished some.1
            (pattern_then c end s1 s2 e buffer (Onward types c line w some.0 buffer [] Finished) (h.output.calls ++ l.calls)
            [] p
            (load_stops c w.found some.0 (ThenSweep s (filler s types buffer) w.found.mapfile [] Finished []) e true
            h.output.calls l.calls h.output.did.1 l.did))
            (λ none. (refl, refl)) (says_none heard x)

        module _ (n : Option MapNames) (start : LoadedMap) (d1 d2 : SiteState) (h : HasLoaded true c n 0 (Ok start) mid d1 d2)
            (told : d2.tells ≡ mid.tells) (top : ℕ) (long : top ≡ length start.tiles.statuses) where
          -- a position has no place in the output
          pub fill_unplaced : IsBeyond c.options top
              → WorkedFill types c line heard heard (Usage PlaceTooLarge) (across s0 s2 old d2 k k x x)
          fill_unplaced far =
              let e : Ending = Usage PlaceTooLarge in
              let l : Loads c.mapfile 0 (Ok start) d1 d2 = own_loads true c n 0 (Ok start) mid d1 d2 h in
              let b : AfterMap c (across s0 s2 mid d2 k k x x) =
              after_files c end p.reads s0 s2 k x has_read true n 0 start mid d1 d2 d2 k x [] [] [] h told
              (λ t. sym (append-nil d2.calls)) (λ t. sym (append-nil k.readings)) (All-nil (λ t. t < 2 ^ 64)) in
              let w : Findings = outside_after c domain s0 s2 old mid d2 k k x x f stays b in
              let s : Setting = fill_setting c line top w.maps in
              after_map heard e s2 d2 k k x x b top buffer [] Finished
              (subst (λ (k : ℕ). IsMapEnd l.file k) (sym long)
              (own_end l.file start.tiles.statuses start.state l.did.0.stands))
              (pattern_then c end s1 s2 e buffer (Onward types c line w top buffer [] Finished)
              (h.output.calls ++ (l.calls ++ [])) [] p
              (files_then c w.found top (ThenSweep s (filler s types buffer) w.found.mapfile [] Finished []) e true
              h.output.calls l.calls (only_calls []) h.output.did.1 l.did.1
              (inl ((far, refl), record { opens = refl; gain = record { calls = refl; reads = refl; times = refl } }))))
              (λ none. (refl, refl)) (says_none heard x)

          -- a sweep came after it, which may not have begun
          pub fill_goes : (heard' : Bool) (e : Ending) (s3 : SourceState) (d3 : SiteState) (k' : ClockState) (x' : ConsoleState)
              → ArePlacedBy c.options top
              → (let s = fill_setting c line top
              (maps_of (statuses_in domain) None (listed_if c.options.complete_only start.first start.listed_end)) in
              DidSweep s (filler s types buffer) start.tiles.statuses start.state heard heard' e (across s2 s3 d2 d3 k k' x x'))
              → WorkedFill types c line heard heard' e (across s0 s3 old d3 k k' x x')
          fill_goes heard' e s3 d3 k' x' placed ran =
              let l : Loads c.mapfile 0 (Ok start) d1 d2 = own_loads true c n 0 (Ok start) mid d1 d2 h in
              let b : AfterMap c (across s0 s2 mid d3 k k' x x') =
              after_files c end p.reads s0 s2 k x has_read true n 0 start mid d1 d2 d3 k' x' ran.gain.calls ran.gain.times
              ran.lines h told ran.gains.calls ran.gains.times ran.gains.fit in
              let w : Findings = outside_after c domain s0 s2 old mid d3 k k' x x' f stays b in
              let s : Setting = fill_setting c line top w.maps in
              let v : Sweeper = filler s types buffer in
              subst (λ (s : SourceState). WorkedFill types c line heard heard' e (across s0 s old d3 k k' x x'))
              (sym ran.gains.unread)
              (after_map heard' e s2 d3 k k' x x' b top buffer ran.pieces ran.end
              (subst (λ (k : ℕ). IsMapEnd l.file k) (sym long)
              (own_end l.file start.tiles.statuses start.state l.did.0.stands))
              (pattern_then c end s1 s2 e buffer (Onward types c line w top buffer ran.pieces ran.end)
              (h.output.calls ++ (l.calls ++ ran.gain.calls)) ran.gain.times p
              (files_then c w.found top (ThenSweep s v w.found.mapfile ran.pieces ran.end ran.lines) e true h.output.calls
              l.calls
              (record { opens = []; gain = record { calls = ran.gain.calls; reads = []; times = ran.gain.times } })
              h.output.did.1 l.did.1
              (inr (
                placed_passes c.options top placed,
                record {
                  opens = refl;
                  statuses = start.tiles.statuses;
                  state = start.state;
                  stands = l.did.0.stands;
                  sweeps = sweep_unread s v start.tiles.statuses start.state ran.pieces ran.end ran.lines e ran.gain
                      ran.gains.reads ran.sweeps;
                },
              ))))
              (sweep_silent s v start.tiles.statuses start.state ran.pieces ran.end ran.lines e ran.gain ran.sweeps) ran.says)
