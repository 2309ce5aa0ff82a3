-- A filling and a generating stop safely at every moment.
use Rattle.std.specs.Bool.{⊤}
use Rattle.std.proofs.Common.{◌≡◌, ℕ, zero, ◌+◌, ◌<◌, ◌^◌, Bool, true, false, List, [], ◌∷◌, ◌++◌, length, take, Option, Some, None, refl, sym, ◌∙◌, inl, subst}
use Rattle.std.proofs.lemmas.List.Elements.{All-nil}
use Rattle.block_list.specs.declared.status.Status.{Status}
use Rattle.block_list.specs.declared.types.TypeSet.{TypeSet}
use Rattle.mapfile_text.specs.declared.state.MapState.{MapState}
use Rattle.crash_site.specs.Files.{File, bytes_of}
use Rattle.crash_site.specs.Calls.{Call, Entry}
use Rattle.mapfile_save.specs.Loading.{IsLoad}
use Rattle.rescue_rules.specs.declared.stop.RunEnd.{RunEnd}
use Rattle.rescue_rules.specs.Setting.{Setting, IsSensible}
use Rattle.rescue_rules.specs.Snapshots.{Snapshot}
use Rattle.rescue_rules.specs.Laws.{AreThreeNames, AreTimes}
use Rattle.rescue_rules.specs.Work.{Gain, IsLoadOf}
use Rattle.rescue_rules.specs.Stops.{Before, files_before}
use Rattle.rescue_rules.specs.StopsBy.{IsUnwritten, StopsBy}
use Rattle.rescue_rules.proofs.BarrierLemmas.{Opens}
use Rattle.rescue_rules.proofs.MapfileLemmas.{opening_by}
use Rattle.rescue_rules.proofs.MapReadLemmas.{after_reads, cut_reads_by}
use Rattle.sweep_rules.specs.Sweep.{Sweeper, Sweep, Swept, filler, generator}
use Rattle.sweep_rules.specs.SweepLaws.{AreGiven}
use Rattle.sweep_rules.specs.SweepWork.{sweep_begins}
use Rattle.sweep_rules.specs.SweepOpens.{EndsEarly}
use Rattle.sweep_rules.specs.SweepStops.{AreFilled, FillPromise, GeneratePromise, SweepsOver, pieces_before, sweep_saves}
use Rattle.sweep_rules.proofs.FillLemmas.{fills_safely}
use Rattle.sweep_rules.proofs.GenerateLemmas.{generates_safely}
use Rattle.sweep_rules.proofs.EarlyLemmas.{ends_early_safely}
use Rattle.task_files.specs.Steps.{IsOnlyMaps}
use Rattle.task_sweeps.specs.Modes.{FillStops, GenerateStops}
use Rattle.ddrescue_cli.proofs.EarlyCut.{EarlyCut, early_cut}
use Rattle.ddrescue_cli.proofs.EarlyStops.{PromisesOld, early_stops}
use Rattle.ddrescue_cli.proofs.GoesLemmas.{maps_cut}
use Rattle.ddrescue_cli.proofs.SpareLemmas.{spare_append, spare_opening, spare_reads, unwritten_cut}
use Rattle.ddrescue_cli.proofs.SweepGoes.{SweepGoes, Unbegun, Begun}
use Rattle.ddrescue_cli.proofs.SweepWay.{SweepWay, InMaps, AfterMaps}

-- all reads of a mapfile
load_of : (s : Setting) (files : List ℕ → Option File) (load : List Call) → s.has_mapfile ≡ true
    → IsLoad s.names.map (files s.names.map) load → IsLoadOf s files load
load_of s files load on loaded = record {
  all = λ _. loaded;
  none = λ off. absurd (let both : true ≡ false = sym on ∙ off in cc);
}

-- of the mapfile that stood there, no piece is promised
none_before : (w : Sweeper) (m : Sweep) (es : List Swept) → pieces_before w m es zero ≡ []
none_before w m [] = refl
none_before w m (e ∷ es) = refl

-- ---- a filling

module _ (b : Before) (s : Setting) (types : TypeSet) (buffer : List ℕ) (pieces : List Swept) (end : RunEnd)
    (on : s.has_mapfile ≡ true) (three : AreThreeNames s) where
  abbrev fill_old : (g : Gain) → Type 0
  fill_old g =
      PromisesOld (λ began shown. sweep_saves (filler s types buffer) began shown g pieces end)
      (λ old began shown number map image. FillPromise s buffer began
      (pieces_before (filler s types buffer) (sweep_begins (filler s types buffer) began shown g) pieces number) map image)
      true b s g.calls

  old_filled : (g : Gain) → fill_old g
  old_filled g k files o began state = record {
    same = refl;
    filled = All-before g began state (bytes_of (files s.outfile));
  }
    where
      All-before : (g : Gain) (began : List Status) (state : Option MapState) (image : List ℕ)
          → AreFilled s buffer (pieces_before (filler s types buffer)
          (sweep_begins (filler s types buffer) began state g) pieces zero) image
      All-before g began state image =
          subst (λ (es : List Swept). AreFilled s buffer es image)
          (sym (none_before (filler s types buffer) (sweep_begins (filler s types buffer) began state g) pieces))
          (All-nil _)

  fill_goes_safely : (g : Gain) → IsSensible s → s.end < 2 ^ 63 → AreTimes g.times → length buffer ≡ s.cluster
      → SweepGoes s (filler s types buffer) (files_before b) pieces end g → FillStops b s types buffer pieces end g
  fill_goes_safely g ok low times long (Unbegun early opens none) =
      early_stops (λ began shown. sweep_saves (filler s types buffer) began shown g pieces end)
      (λ old began shown number map image. FillPromise s buffer began
      (pieces_before (filler s types buffer) (sweep_begins (filler s types buffer) began shown g) pieces number) map image)
      true b s g.calls (old_filled g) (ends_early_safely b s true g.calls on three opens early)
  fill_goes_safely g ok low times long (Begun opens load statuses state rest loaded stands grew sweeps is) =
      let o : SweepsOver s (filler s types buffer) b statuses state g = record {
        load = load;
        loads = load_of s (files_before b) load on loaded;
        stands = stands;
        rest = rest;
        calls = grew;
        end = end;
        sweeps = sweeps;
      } in
      subst (λ (es : List Swept). FillStops b s types buffer es end g) is
      (fills_safely b s types buffer g statuses state ok on three low times long o)

-- ---- a generating

-- what ended before its first piece wrote nothing
early_spare : (s : Setting) (makes : Bool) (files : List ℕ → Option File) (calls : List Entry) (j y : ℕ)
    → s.has_mapfile ≡ true → EndsEarly s makes files calls → IsUnwritten (take j calls) y
early_spare s makes files calls j y on ends =
    let e : EarlyCut s makes calls = early_cut s makes files calls on ends in
    unwritten_cut (opening_by s makes ++ e.load) calls j y
    (spare_append (opening_by s makes) e.load (spare_opening s makes) (spare_reads e.load e.reads)) e.cut

module _ (b : Before) (s : Setting) (pieces : List Swept) (end : RunEnd) (on : s.has_mapfile ≡ true)
    (three : AreThreeNames s) where
  abbrev GenerateOld : Gain → Type 0
  GenerateOld g =
      PromisesOld (λ began shown. sweep_saves (generator s) began shown g pieces end)
      (λ old began shown number map image. GeneratePromise s old began map image) false b s g.calls

  old_generated : (g : Gain) → EndsEarly s false (files_before b) g.calls → GenerateOld g
  old_generated g early k files o began state = record {
    held = λ x has. inl has;
    stands = λ y lt. o.unwritten y (early_spare s false (files_before b) g.calls (k + 1) y on early) lt;
  }

  there_file : Opens false (files_before b s.outfile) → (f : File) × (files_before b s.outfile ≡ Some f)
  there_file opens = some_file (files_before b s.outfile) opens
    where
      some_file : (o : Option File) → Opens false o → (f : File) × (o ≡ Some f)
      some_file None opens = absurd opens
      some_file (Some f) opens = (f, refl)

  generate_goes_safely : (g : Gain) → IsSensible s → s.end < 2 ^ 63 → AreTimes g.times
      → AreGiven s (bytes_of (files_before b s.outfile)) pieces
      → SweepGoes s (generator s) (files_before b) pieces end g → GenerateStops b s pieces end g
  generate_goes_safely g ok low times given (Unbegun early opens none) =
      let h : StopsBy (λ began shown. []) (λ old began shown number map image. map ≡ began) false b s g.calls
      = ends_early_safely b s false g.calls on three opens early in
      early_stops (λ began shown. sweep_saves (generator s) began shown g pieces end)
      (λ old began shown number map image. GeneratePromise s old began map image) false b s g.calls
      (old_generated g early) h
  generate_goes_safely g ok low times given (Begun opens load statuses state rest loaded stands grew sweeps is) =
      let o : SweepsOver s (generator s) b statuses state g = record {
        load = load;
        loads = load_of s (files_before b) load on loaded;
        stands = stands;
        rest = rest;
        calls = grew;
        end = end;
        sweeps = sweeps;
      } in
      let there : (f : File) × (files_before b s.outfile ≡ Some f) = there_file opens in
      subst (λ (es : List Swept). GenerateStops b s es end g) is
      (generates_safely b s g statuses state there.0 ok on three low times there.1 o
      (subst (λ (es : List Swept). AreGiven s (bytes_of (files_before b s.outfile)) es) (sym is) given))

-- ---- after reads of maps

-- a sweep stops safely if what it did after them does
way_safely : (saves : List Status → Option MapState → List Snapshot)
    (promise : List ℕ → List Status → Option MapState → ℕ → List Status → List ℕ → Type 0) (makes : Bool) (b : Before)
    (s : Setting) (ready : Type 0) (w : Sweeper) (pieces : List Swept) (end : RunEnd) (g : Gain)
    → ((h : Gain) → h.times ≡ g.times → ready → SweepGoes s w (files_before b) pieces end h
    → StopsBy saves promise makes b s h.calls)
    → SweepWay ready s w (files_before b) pieces end g → StopsBy saves promise makes b s g.calls
way_safely saves promise makes b s ready w pieces end g goes (InMaps maps reads cut still) =
    cut_reads_by saves promise makes b s maps g.calls reads cut
way_safely saves promise makes b s ready w pieces end g goes (AfterMaps maps h reads grew timed is way) =
    subst (λ (l : List Entry). StopsBy saves promise makes b s l) (sym grew)
    (after_reads saves promise makes b s maps h.calls reads (goes h timed is way))

pub fill_stops : (b : Before) (s : Setting) (types : TypeSet) (buffer : List ℕ) (pieces : List Swept) (end : RunEnd)
    (g : Gain) → s.has_mapfile ≡ true → AreThreeNames s → IsSensible s → s.end < 2 ^ 63 → AreTimes g.times
    → SweepWay (length buffer ≡ s.cluster) s (filler s types buffer) (files_before b) pieces end g
    → FillStops b s types buffer pieces end g
fill_stops b s types buffer pieces end g on three ok low times way =
    way_safely (λ began shown. sweep_saves (filler s types buffer) began shown g pieces end)
    (λ old began shown number map image. FillPromise s buffer began
    (pieces_before (filler s types buffer) (sweep_begins (filler s types buffer) began shown g) pieces number) map image)
    true b s (length buffer ≡ s.cluster) (filler s types buffer) pieces end g
    (λ h timed long goes.
    subst (λ (t : List ℕ). FillStops b s types buffer pieces end (record h { times = t })) timed
    (fill_goes_safely b s types buffer pieces end on three h ok low (subst AreTimes (sym timed) times) long goes)) way

pub generate_stops : (b : Before) (s : Setting) (pieces : List Swept) (end : RunEnd) (g : Gain) → s.has_mapfile ≡ true
    → AreThreeNames s → IsSensible s → s.end < 2 ^ 63 → AreTimes g.times
    → AreGiven s (bytes_of (files_before b s.outfile)) pieces
    → SweepWay ⊤ s (generator s) (files_before b) pieces end g → GenerateStops b s pieces end g
generate_stops b s pieces end g on three ok low times given way =
    way_safely (λ began shown. sweep_saves (generator s) began shown g pieces end)
    (λ old began shown number map image. GeneratePromise s old began map image) false b s ⊤
    (generator s) pieces end g
    (λ h timed any goes.
    subst (λ (t : List ℕ). GenerateStops b s pieces end (record h { times = t })) timed
    (generate_goes_safely b s pieces end on three h ok low (subst AreTimes (sym timed) times) given goes)) way

-- where nothing was done but that maps were read, a stop is safe, whatever the input's length
pub only_maps_stop : (b : Before) (s : Setting) (pieces : List Swept) (end : RunEnd) (g : Gain) → IsOnlyMaps g
    → GenerateStops b s pieces end g
only_maps_stop b s pieces end g m =
    cut_reads_by (λ began shown. sweep_saves (generator s) began shown g pieces end)
    (λ old began shown number map image. GeneratePromise s old began map image) false b s
    m.maps g.calls m.are (maps_cut m.maps g.calls m.calls)
