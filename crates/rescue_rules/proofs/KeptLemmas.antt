-- Any run that saves while it goes stops safely at every moment.
use Rattle.std.proofs.Common.{◌≡◌, ℕ, zero, suc, ◌+◌, ◌-◌, ◌≤◌, ◌<◌, Bool, true, false, cond, List, [], ◌∷◌, ◌++◌, length, take, drop, All, get_or, Option, Some, refl, sym, ◌∙◌, ap, subst, arith}
use Rattle.std.proofs.Math.Numerals.{add-one}
use Rattle.std.specs.Str.{bytes_eq}
use Rattle.std.specs.List.{list_any, count_by, slice_get}
use Rattle.std.proofs.lemmas.Bool.{cond-true, cond-false}
use Rattle.std.proofs.lemmas.Option.{slice_get-get_or}
use Rattle.block_list.specs.declared.status.Status.{Status}
use Rattle.mapfile_text.specs.declared.state.MapState.{MapState}
use Rattle.crash_site.specs.Files.{File, bytes_of}
use Rattle.crash_site.specs.FileAnswers.{kind_of}
use Rattle.crash_site.specs.Calls.{Call, Entry, Done, image_open, image_sync, map_settle}
use Rattle.crash_site.specs.Disk.{Showing, Disk, only, disk_after}
use Rattle.crash_site.specs.Left.{MayShow, Leaves, until, MayBeLeft}
use Rattle.crash_site.proofs.DiskLemmas.{stands_only}
use Rattle.crash_site.proofs.LawLemmas.{own_name, other_name}
use Rattle.rescue_rules.specs.Setting.{Setting}
use Rattle.rescue_rules.specs.Start.{Stands}
use Rattle.rescue_rules.specs.Snapshots.{Snapshot, text_of}
use Rattle.rescue_rules.specs.Laws.{AreThreeNames}
use Rattle.rescue_rules.specs.Deeds.{KeepsUp}
use Rattle.rescue_rules.specs.Stops.{Before, files_before, files_after, is_settle, is_write, has_barrier, CouldBefore, opened_output, CouldBeOutput, LeftBy}
use Rattle.rescue_rules.specs.StopsBy.{is_publish, IsSave, IsUnwritten, IsKeptBy, KeepsOver, StopsBy}
use Rattle.rescue_rules.proofs.StandsLemmas.{printed_stands}
use Rattle.rescue_rules.proofs.SnapshotLemmas.{IsReadable, one_of}
use Rattle.rescue_rules.proofs.CutLemmas.{tally, tally_is, Each, at_stop}
use Rattle.rescue_rules.proofs.BarrierLemmas.{Opens, opened_kind, at_barrier}
use Rattle.rescue_rules.proofs.BeforeLemmas.{disk_before, left_by, could_before}
use Rattle.rescue_rules.proofs.SaveStages.{Doing, put_own}
use Rattle.rescue_rules.proofs.DeedStages.{all_calls, Kept, BeginsOver, Holds, begins_hold, each_doing}
use Rattle.rescue_rules.proofs.KeepLemmas.{saved_map_is, Promise, Free, keeps_up}
use Rattle.rescue_rules.proofs.OthersLemmas.{IsOther, reads_of, AreOfRun, all_of_run, deeds_lead, others_could}
use Rattle.rescue_rules.proofs.UnwrittenLemmas.{Shown, Steady, unwritten_at, shown_found}
use Rattle.rescue_rules.proofs.StopsByLemmas.{reads_before, each_load, Past, past, tally_more, uncounted, AtStop, tallied, SafeRun, OverMaps, holds_over, holds_over_some}
use Rattle.rescue_rules.proofs.LostLemmas.{over_disk, opens_disk, image, map, sound, could_read, read_left, Resolved, resolve}

no_save : (old : Option File) (began : List Status) (line : List ℕ) (saves : List Snapshot) (n : ℕ)
    (found : Option File)
    (statuses : List Status) → IsSave old began line saves n found statuses → n ≤ 0 → found ≡ old
no_save old began line saves zero found statuses h few = h.0
no_save old began line saves (suc n) found statuses h few = absurd (omega (arith, few))

-- the mapfile that is found stands for its map
pub stands_found : (s : Setting) (old : Option File) (began : List Status) (state : Option MapState)
    (saves : List Snapshot)
    (n : ℕ) (found : Option File) (statuses : List Status) → IsSave old began s.line saves n found statuses
    → All (IsReadable s.end) saves → Stands old s.end began state
    → (shows : Option MapState) × Stands found s.end statuses shows
stands_found s old began state saves zero found statuses h small stands = (
  state,
  subst (λ (o : Option File). Stands o s.end statuses state) (sym h.0)
      (subst (λ (l : List Status). Stands old s.end l state) (sym h.1) stands),
)
stands_found s old began state saves (suc n) found statuses h small stands =
    let p : Snapshot = h.0 in
    let r : IsReadable s.end p = one_of (IsReadable s.end) saves n p small h.1 in
    let file : File = record { bytes = text_of s.line p; regular = true } in (
      Some p.shown,
      subst (λ (o : Option File). Stands o s.end statuses (Some p.shown)) (sym h.3)
          (subst (λ (l : List Status). Stands (Some file) s.end l (Some p.shown)) (sym h.2)
          (printed_stands s.line file s.end p r.long r.short r.shown r.began r.now refl)),
    )

-- one run, over one map and one output
module _ (promise : ℕ → List Status → List ℕ → Type 0) (free : ℕ → List Status → ℕ → Type 0) (makes : Bool) (b : Before)
    (s : Setting) (began : List Status) (saves : List Snapshot) (calls : List Entry) (three : AreThreeNames s)
    (opens : Opens makes (files_before b s.outfile)) (was : File)
    (p : SafeRun promise free makes s was.bytes began saves calls) where
  abbrev doing : Doing
  doing = record {
    s = s;
    mapfile = files_before b s.names.map;
    began = began;
    start = was.bytes;
    kind = kind_of (Some was) false;
    saves = saves;
  }

  abbrev Stopped : ℕ → ℕ → ℕ → Disk → Type 0
  Stopped = Holds (Promise promise free began saves) (Free promise free began saves) doing

  keeping : KeepsUp (Promise promise free began saves) (Free promise free began saves) 0 was.bytes p.deeds
  keeping = keeps_up promise free began saves p.deeds p.last 0 began was.bytes [] refl p.saves_are refl p.keeps

  abbrev pub tail : List Call
  tail = reads_of s p.course.given p.course.at p.course.answer ++ all_calls s p.deeds p.last

  pub of_run : AreOfRun s false tail
  of_run = all_of_run s makes p.deeds p.last p.course.given p.course.at p.course.answer
      (deeds_lead s (Promise promise free began saves) (Free promise free began saves) p.deeds 0 was.bytes keeping)

  pub could_be_before : (k : ℕ) (files : List ℕ → Option File) → LeftBy b calls k files
      → has_barrier (take k calls) ≡ false → CouldBefore b s.outfile s.names.draft files
  could_be_before k files left none =
      could_before b s makes tail calls k files three p.course.cut none (left_by b calls k files left)

  pub others_stand : (k : ℕ) (files : List ℕ → Option File) (name : List ℕ) → LeftBy b calls k files → IsOther s name
      → (before : List ℕ → Option File) × MayBeLeft b.start b.earlier (length b.earlier) before
      × (files name ≡ before name)
  others_stand k files name left other =
      others_could s makes p.deeds p.last p.course.given p.course.at p.course.answer b name calls k files other
      (opens_disk makes b s three opens) of_run p.course.cut (left_by b calls k files left)

  pub resolved : (k : ℕ) (files : List ℕ → Option File) → LeftBy b calls k files → has_barrier (take k calls) ≡ true
      → Resolved makes b s three opens calls k files
  resolved k files left is = resolve makes b s three opens tail calls k files of_run p.course.cut left is

  abbrev begun : Disk
  begun = over_disk makes b s three opens was

  pick_shown : (f : Bool) (x y : Showing) (v w : Option File) → MayShow x v → MayShow y w
      → MayShow (cond f x y) (cond f v w)
  pick_shown true x y v w h g = h
  pick_shown false x y v w h g = g

  own_reads : begun.reads.files s.outfile ≡ Some was
  own_reads = put_own (at_barrier s makes (disk_before b)).reads.files s.outfile (Some was)

  own_shown : begun.shows s.outfile ≡ only (Some was)
  own_shown =
      cond-true (bytes_eq s.outfile s.outfile) (only (Some was)) ((at_barrier s makes (disk_before b)).shows s.outfile)
      (own_name s.outfile)

  over : BeginsOver doing begun
  over =
      let d1 : Disk = at_barrier s makes (disk_before b) in
      let apart : bytes_eq s.names.map s.outfile ≡ false = other_name s.names.map s.outfile (λ e. three.map (sym e)) in
      let kept = map makes b s three opens in
      let reads : begun.reads.files s.names.map ≡ (disk_before b).reads.files s.names.map
      = cond-false (bytes_eq s.names.map s.outfile) (Some was) (d1.reads.files s.names.map) apart ∙ kept.reads in
      record {
        rests = record {
          image = image makes b s three opens;
          mapfile = cond-false (bytes_eq s.names.map s.outfile) (only (Some was)) (d1.shows s.names.map)
              apart ∙ kept.shows
              ∙ ap only (sym reads);
          file = was;
          reads = own_reads;
          output = own_shown;
          sound = λ n. pick_shown (bytes_eq n s.outfile) (only (Some was)) (d1.shows n) (Some was) (d1.reads.files n)
              (stands_only (Some was)) (sound makes b s three opens n);
        };
        mapfile = reads ∙ reads_before b s.names.map;
        start = ap bytes_of own_reads;
        kind = ap (λ (o : Option File). kind_of o false) own_reads;
      }

  -- a stop after the barrier
  module _ (k : ℕ) (files : List ℕ → Option File) (is : has_barrier (take k calls) ≡ true)
      (left : Leaves (disk_after begun (until (k - 3) (drop 3 calls))) files) where
    q : Past s makes tail calls k
    q = past s makes tail calls k p.course.cut is

    left_here : Leaves (disk_after begun (until q.j q.rest)) files
    left_here =
        subst (λ (l : List Entry). Leaves (disk_after begun (until q.j l)) files) (ap (drop 3) q.es_is)
        (subst (λ (m : ℕ). Leaves (disk_after begun (until m (drop 3 calls))) files)
        (let e : k - 3 ≡ q.j = omega (arith, q.k_is) in e) left)

    -- what is found keeps what the run has to
    pub found_keeps : Kept (Promise promise free began saves) doing (count_by is_settle (take k calls) - 1)
        (count_by is_publish (take (k + 1) calls)) (count_by is_write (take (k + 1) calls)) files
    found_keeps =
        let KeptBy = λ (r u w : ℕ) (d : Disk). Kept (Promise promise free began saves) doing r u w files in
        let whole : List Entry
        = Done (image_open s.outfile makes) ∷ Done (map_settle s.names.map) ∷ Done image_sync ∷ q.rest in
        let each : Each Stopped 0 0 0 begun tail
        = each_load Stopped s.names.map p.course.given p.course.at p.course.answer begun (all_calls s p.deeds p.last)
        (begins_hold (Promise promise free began saves) (Free promise free began saves) doing begun over
        p.first p.outlasts)
        (each_doing (Promise promise free began saves) (Free promise free began saves) doing begun over p.first p.deeds
        p.last p.outlasts three p.saves_are keeping) in
        let stopped = at_stop Stopped 0 0 0 begun tail q.rest q.j each q.cut in
        subst (λ (n : ℕ). Kept (Promise promise free began saves) doing (count_by is_settle (take k calls) - 1)
        (count_by is_publish (take n calls)) (count_by is_write (take n calls)) files) (sym (add-one k))
        (subst (λ (l : List Entry). AtStop KeptBy (disk_before b) l k) (sym q.es_is)
        (subst (λ (m : ℕ). AtStop KeptBy (disk_before b) whole m) (sym q.k_is)
        (tallied KeptBy (disk_before b) whole (suc (suc (suc q.j))) (tally is_settle (take q.j q.rest) 0)
        (tally_more is_settle (take q.j q.rest) 0) (stopped files left_here))))

    pub output_stands : list_any is_write (take (k + 1) calls) ≡ false → bytes_of (files s.outfile) ≡ was.bytes
    output_stands none =
        found_keeps.unwritten
        (tally_is is_write (take (k + 1) calls) ∙ uncounted is_write (take (k + 1) calls) none)

    pub map_stands : count_by is_publish (take (k + 1) calls) ≡ 0 → files s.names.map ≡ files_before b s.names.map
    map_stands none =
        no_save (files_before b s.names.map) began s.line saves found_keeps.number
        (files s.names.map) found_keeps.statuses
        found_keeps.is_save (omega (arith, found_keeps.no_newer, none))

    pub kept_by : (state : Option MapState) → All (IsReadable s.end) saves
        → Stands (files_before b s.names.map) s.end began state → IsKeptBy saves promise b s calls began k files
    kept_by state readable stands =
        let h = found_keeps in
        let shows = stands_found s (files_before b s.names.map) began state saves h.number
        (files s.names.map) h.statuses
        h.is_save readable stands in
        record {
          number = h.number;
          no_older = h.no_older;
          no_newer = h.no_newer;
          statuses = h.statuses;
          is_save = h.is_save;
          shows = shows.0;
          stands = shows.1;
          held = subst (λ (t : List Status). promise h.number t (bytes_of (files s.outfile)))
              (saved_map_is (files_before b s.names.map) began s.line saves h.number
              (files s.names.map) h.statuses h.is_save)
              h.held;
        }

    -- the calls after the barrier leave a byte that they don't reach
    byte_at : (y byte : ℕ) → IsUnwritten (take (suc k) calls) y → slice_get was.bytes y ≡ Some byte
        → slice_get (bytes_of (files s.outfile)) y ≡ Some byte
    byte_at y byte free_here there =
        let whole : List Entry
        = Done (image_open s.outfile makes) ∷ Done (map_settle s.names.map) ∷ Done image_sync ∷ q.rest in
        let steady : Steady s three y byte begun = record {
          shown = record {
            file = was;
            loose = [];
            lost = [];
            is = own_shown;
            firm = λ l. l;
            at = there;
          };
          unlost = refl;
          now = was;
          reads = own_reads;
          here = there;
        } in
        let free' : IsUnwritten (take (suc q.j) q.rest) y
        = subst (λ (n : ℕ). IsUnwritten (take (suc n) whole) y) q.k_is
        (subst (λ (l : List Entry). IsUnwritten (take (suc k) l) y) q.es_is free_here) in
        let shown : Shown s three y byte (disk_after begun (until q.j q.rest))
        = unwritten_at s three y byte false begun tail q.rest q.j of_run q.cut
        (record { image = image makes b s three opens; draft = λ off. absurd (let apart : false ≡ true = off in cc) })
        free' steady in
        shown_found s three y byte (disk_after begun (until q.j q.rest)) files shown left_here

    pub unwritten_stands : (y : ℕ) → IsUnwritten (take (k + 1) calls) y → y < length was.bytes
        → slice_get (bytes_of (files s.outfile)) y ≡ slice_get was.bytes y
    unwritten_stands y free_here within =
        let there : slice_get was.bytes y ≡ Some (get_or was.bytes y 0) = slice_get-get_or was.bytes y 0 within in
        byte_at y (get_or was.bytes y 0) (subst (λ (n : ℕ). IsUnwritten (take n calls) y) (add-one k) free_here) there
        ∙ sym there

-- one that is as regular as another is of its kind
pub regular_kind : (f g : File) → g.regular ≡ f.regular → kind_of (Some g) false ≡ kind_of (Some f) false
regular_kind f g same = ap (λ (r : Bool). kind_of (Some (record { bytes = []; regular = r })) false) same

-- what is known of a run over each output that could be before it
abbrev pub SafeOver : (saves : List Status → Option MapState → List Snapshot)
    → (promise : List ℕ → List Status → Option MapState → ℕ → List Status → List ℕ → Type 0)
    → (free : List Status → Option MapState → ℕ → List Status → ℕ → Type 0) → (makes : Bool) → Before → Setting
    → List Entry → Type 0
SafeOver saves promise free makes b s calls = (was : File) → CouldBeOutput b s.outfile s.names.draft was
    → OverMaps (λ began state. SafeRun (promise was.bytes began state) (free began state) makes s was.bytes began
    (saves began state) calls) (files_before b s.names.map) s.end

-- what such a run keeps at a stop past its barrier, over an output that could be before it
abbrev keeps_over : (saves : List Status → Option MapState → List Snapshot)
    (promise : List ℕ → List Status → Option MapState → ℕ → List Status → List ℕ → Type 0)
    (free : List Status → Option MapState → ℕ → List Status → ℕ → Type 0) (makes : Bool) (b : Before) (s : Setting)
    (calls : List Entry) (three : AreThreeNames s) (opens : Opens makes (files_before b s.outfile))
    → SafeOver saves promise free makes b s calls
    → ((began : List Status) (state : Option MapState) → Stands (files_before b s.names.map) s.end began state
    → All (IsReadable s.end) (saves began state))
    → (was : File) → CouldBeOutput b s.outfile s.names.draft was → (k : ℕ) (files : List ℕ → Option File)
    → has_barrier (take k calls) ≡ true
    → Leaves (disk_after (over_disk makes b s three opens was) (until (k - 3) (drop 3 calls))) files
    → KeepsOver saves promise makes b s calls k files
keeps_over saves promise free makes b s calls three opens way readable was could k files is left =
    let ways = way was could in
    let (m, at, p) = holds_over_some (λ began state. SafeRun (promise was.bytes began state) (free began state) makes
    s was.bytes began (saves began state) calls) (files_before b s.names.map) s.end ways in
    record {
      was = was;
      could = could;
      output = λ none. output_stands (promise was.bytes m at) (free m at) makes b s m
          (saves m at) calls three opens was p
          k files is left none;
      mapfile = λ none. map_stands (promise was.bytes m at) (free m at) makes b s m (saves m at) calls three opens was p
          k files is left none;
      there = (found_keeps (promise was.bytes m at) (free m at) makes b s m (saves m at) calls three opens
          was p k files is
          left).there
          ∙ regular_kind (opened_output (files_before b s.outfile)) was could.alike.regular
          ∙ opened_kind makes (files_before b s.outfile) opens;
      kept = λ began state stands.
          kept_by (promise was.bytes began state) (free began state) makes b s began
          (saves began state) calls three opens
          was
          (holds_over (λ began state. SafeRun (promise was.bytes began state) (free began state) makes s was.bytes began
          (saves began state) calls) (files_before b s.names.map) s.end began state ways stands)
          k files is left state (readable began state stands) stands;
      unwritten = λ y free_here within. unwritten_stands (promise was.bytes m at) (free m at) makes b s m
          (saves m at) calls
          three opens was p k files is left y free_here within;
    }

-- So does any safe run that saves what can be read again.
pub stops_by : (saves : List Status → Option MapState → List Snapshot)
    (promise : List ℕ → List Status → Option MapState → ℕ → List Status → List ℕ → Type 0)
    (free : List Status → Option MapState → ℕ → List Status → ℕ → Type 0) (makes : Bool) (b : Before) (s : Setting)
    (calls : List Entry) → AreThreeNames s → Opens makes (files_before b s.outfile)
    → SafeOver saves promise free makes b s calls
    → ((began : List Status) (state : Option MapState) → Stands (files_before b s.names.map) s.end began state
    → All (IsReadable s.end) (saves began state))
    → StopsBy saves promise makes b s calls
stops_by saves promise free makes b s calls three opens way readable =
    let first : File = opened_output (files_before b s.outfile) in
    let (m0, at0, p0) = holds_over_some (λ began state. SafeRun (promise first.bytes began state)
    (free began state) makes s
    first.bytes began (saves began state) calls) (files_before b s.names.map) s.end
    (way first (could_read makes b s three opens)) in
    record {
      before = λ stop none. could_be_before (promise first.bytes m0 at0) (free m0 at0) makes b s m0 (saves m0 at0) calls
          three opens first p0 stop.k stop.files stop.left none;
      past = λ stop is.
          let r = resolved (promise first.bytes m0 at0) (free m0 at0) makes b s m0 (saves m0 at0) calls three
          opens first p0
          stop.k stop.files stop.left is in
          keeps_over saves promise free makes b s calls three opens way readable r.was r.could stop.k
          stop.files is r.left;
      reads = λ k within is. (
        keeps_over saves promise free makes b s calls three opens way readable first
            (could_read makes b s three opens) k
            (files_after b (take k calls)) is
            (read_left makes b s three opens (tail (promise first.bytes m0 at0) (free m0 at0) makes b s m0
            (saves m0 at0)
            calls three opens first p0) calls k p0.course.cut is),
        refl,
      );
      others = λ stop name output mapfile draft.
          others_stand (promise first.bytes m0 at0) (free m0 at0) makes b s m0 (saves m0 at0) calls three opens first p0
          stop.k stop.files name stop.left
          (record { output = output; map = mapfile; draft = draft; own = three.own });
    }
