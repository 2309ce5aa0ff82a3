-- A sweep that ended before its first piece stops safely.
use Rattle.std.proofs.Common.{◌≡◌, ◌≢◌, ◌⊎◌, inl, inr, ℕ, zero, suc, ◌+◌, ◌-◌, ◌≤◌, Bool, true, false, List, [], ◌∷◌, ◌++◌, length, take, drop, map, Option, Some, None, refl, sym, ◌∙◌, ap, subst, arith, append_assoc}
use Rattle.std.proofs.Math.Numerals.{add-one}
use Rattle.std.specs.List.{count_by}
use Rattle.block_list.specs.declared.status.Status.{Status}
use Rattle.mapfile_text.specs.declared.state.MapState.{MapState}
use Rattle.mapfile_text.specs.declared.state.Current.TheVariants.{Filling}
use Rattle.crash_site.specs.declared.site.MapRead.{MapRead}
use Rattle.crash_site.specs.declared.site.SiteCall.TheVariants.{MapRead as MapReadName}
use Rattle.crash_site.specs.Files.{File}
use Rattle.crash_site.specs.Calls.{Call, Entry, Done, Failed, image_open, image_sync, map_read, map_settle}
use Rattle.crash_site.specs.CallsMade.{BrokeAt}
use Rattle.crash_site.specs.Disk.{Showing, Disk, with_opened, after_part, entered, disk_after}
use Rattle.crash_site.specs.Left.{MayShow, Leaves, until, MayBeLeft}
use Rattle.crash_site.proofs.LawLemmas.{at_other}
use Rattle.mapfile_save.specs.Loading.{piece_size, piece_reads}
use Rattle.rescue_rules.specs.Setting.{Setting}
use Rattle.rescue_rules.specs.Start.{Stands}
use Rattle.rescue_rules.specs.Snapshots.{Snapshot}
use Rattle.rescue_rules.specs.Laws.{AreThreeNames}
use Rattle.rescue_rules.specs.Stops.{Before, files_before, files_after, opened_output, CouldBeOutput, has_barrier, LeftBy}
use Rattle.rescue_rules.specs.StopsBy.{is_publish, IsSave, IsKeptBy, KeepsOver, StopsBy}
use Rattle.rescue_rules.proofs.CutLemmas.{Cut, cut_all, cut_more, tally, tally_is, Each, at_stop}
use Rattle.rescue_rules.proofs.BarrierLemmas.{Opens, opened_kind}
use Rattle.rescue_rules.proofs.MapfileLemmas.{opening_by}
use Rattle.rescue_rules.proofs.BeforeLemmas.{disk_before, left_by, could_before}
use Rattle.rescue_rules.proofs.DeedStages.{all_calls}
use Rattle.rescue_rules.proofs.OthersLemmas.{reads_of, found_could}
use Rattle.rescue_rules.proofs.StopsByLemmas.{peel, barrier_after, SafeRun}
use Rattle.rescue_rules.proofs.LostLemmas.{over_disk, could_read, read_left}
use Rattle.rescue_rules.proofs.KeptLemmas.{tail, found_keeps, output_stands, map_stands, unwritten_stands, could_be_before, others_stand, resolved, regular_kind}
use Rattle.rescue_rules.proofs.GoesLemmas.{broke_cut, front_cut}
use Rattle.sweep_rules.specs.SweepOpens.{EndsEarly, InOpening, InLoad, OpensOrEnds, EndsEarlySafely}
use Rattle.sweep_rules.proofs.EndLemmas.{opening_is}

-- its calls are a cut of an opening and a load
record Early (s : Setting) (makes : Bool) (calls : List Entry) : Type 0 where
  given : List ℕ
  at : ℕ
  answer : Option MapRead
  cut : Cut (opening_by s makes ++ reads_of s given at answer) calls

all_or_broke : (all : List Call) (calls : List Entry) → (calls ≡ map Done all) ⊎ BrokeAt MapReadName all [] calls
    → Cut all calls
all_or_broke all calls (inl is) = subst (λ (l : List Entry). Cut all l) (sym is) (cut_all all)
all_or_broke all calls (inr broke) = broke_cut MapReadName [] all calls broke

early : (s : Setting) (makes : Bool) (files : List ℕ → Option File) (calls : List Entry) → s.has_mapfile ≡ true
    → EndsEarly s makes files calls → Early s makes calls
early s makes files calls on (InOpening front back is h) = record {
  given = [];
  at = 0;
  answer = None;
  cut = cut_more (opening_by s makes) (reads_of s [] 0 None) calls
      (front_cut s makes front back calls (is ∙ opening_is s makes on) h);
}
early s makes files calls on (InLoad load b h) =
    let all : List Call = opening_by s makes ++ load in
    let same : (calls ≡ map Done all) ⊎ BrokeAt MapReadName all [] calls
    = subst (λ (l : List Call). (calls ≡ map Done (l ++ load)) ⊎ BrokeAt MapReadName (l ++ load) [] calls)
    (opening_is s makes on) h in
    record {
      given = b.given;
      at = _;
      answer = b.answer;
      cut = subst (λ (l : List Call). Cut (opening_by s makes ++ l) calls) b.calls_are (all_or_broke all calls same);
    }

-- it publishes nothing
abbrev Unpublished : ℕ → ℕ → ℕ → Disk → Type 0
Unpublished r p w d = p ≡ 0

reads_unpublished : (name : List ℕ) (pos : ℕ) (given : List ℕ) (at : ℕ) (answer : Option MapRead) (r : ℕ) (d : Disk)
    → Each Unpublished r 0 0 d (piece_reads name pos given ++ map_read name at piece_size answer ∷ [])
reads_unpublished name pos [] at answer r d = (refl, (λ steps. refl), refl)
reads_unpublished name pos (n ∷ ns) at answer r d =
    (refl, (λ steps. refl), reads_unpublished name (pos + n) ns at answer r d)

unpublished : (s : Setting) (makes : Bool) (calls : List Entry) (d : Disk) (k : ℕ) → Early s makes calls
    → count_by is_publish (take (k + 1) calls) ≡ 0
unpublished s makes calls d k e =
    let d3 : Disk
    = entered (entered (entered d (Done (image_open s.outfile makes))) (Done (map_settle s.names.map))) (Done image_sync) in
    let each : Each Unpublished 0 0 0 d (opening_by s makes ++ reads_of s e.given e.at e.answer)
    = (
      refl,
      (λ steps. refl),
      (refl, (λ steps. refl), (refl, (λ steps. refl), reads_unpublished s.names.map 0 e.given e.at e.answer 1 d3)),
    ) in
    let none : tally is_publish (take (suc k) calls) 0 ≡ 0
    = at_stop Unpublished 0 0 0 d (opening_by s makes ++ reads_of s e.given e.at e.answer) calls k each e.cut in
    ap (λ (n : ℕ). count_by is_publish (take n calls)) (add-one k) ∙ tally_is is_publish (take (suc k) calls) ∙ none

-- a mapfile that is no save is the one that stood there
no_number : (old : Option File) (began : List Status) (line : List ℕ) (saves : List Snapshot) (n : ℕ) (found : Option File)
    (statuses : List Status) → n ≤ 0 → IsSave old began line saves n found statuses
    → IsSave old began line [] n found statuses × (found ≡ old) × (statuses ≡ began)
no_number old began line saves zero found statuses few h = (h, h.0, h.1)
no_number old began line saves (suc n) found statuses few h = absurd (omega (arith, few))

-- what it would save next, which it doesn't come to
abbrev unsaved : List Status → Snapshot
unsaved began = record { map = began; shown = record { pos = 0; current = Filling; pass = 1 }; began = 0; now = 0 }

abbrev Same : List Status → ℕ → List Status → List ℕ → Type 0
Same began n map image = map ≡ began

abbrev Nowhere : ℕ → List Status → ℕ → Type 0
Nowhere n map y = ⊥

abbrev early_is_safe : (s : Setting) (makes : Bool) (old : List ℕ) (began : List Status) (calls : List Entry)
    → Early s makes calls
    → SafeRun (Same began) Nowhere makes s old began (unsaved began ∷ []) calls
early_is_safe s makes old began calls e =
    let reads : List Call = reads_of s e.given e.at e.answer in
    let more : List Call = all_calls s [] (unsaved began) in
    record {
      deeds = [];
      last = unsaved began;
      saves_are = refl;
      outlasts = record { lasts = λ n was now loose m free long h. h };
      first = refl;
      keeps = refl;
      course = record {
        given = e.given;
        at = e.at;
        answer = e.answer;
        cut = subst (λ (l : List Call). Cut l calls) (append_assoc (opening_by s makes) reads more)
            (cut_more (opening_by s makes ++ reads) more calls e.cut);
      };
    }

-- where its output was opened
module _ (b : Before) (s : Setting) (makes : Bool) (calls : List Entry) (three : AreThreeNames s)
    (opens : Opens makes (files_before b s.outfile)) (e : Early s makes calls) where
  abbrev is_safe : (was : File) (began : List Status) → SafeRun (Same began) Nowhere makes s was.bytes began
      (unsaved began ∷ []) calls
  is_safe was began = early_is_safe s makes was.bytes began calls e

  opened_kept : (was : File) (k : ℕ) (files : List ℕ → Option File) (began : List Status) (state : Option MapState)
      → has_barrier (take k calls) ≡ true
      → Leaves (disk_after (over_disk makes b s three opens was) (until (k - 3) (drop 3 calls))) files
      → Stands (files_before b s.names.map) s.end began state → IsKeptBy [] (Same began) b s calls began k files
  opened_kept was k files began state is left stands =
      let h = found_keeps (Same began) Nowhere makes b s began (unsaved began ∷ []) calls three opens was
      (is_safe was began)
      k files is left in
      let few : h.number ≤ 0 = omega (arith, h.no_newer, unpublished s makes calls (disk_before b) k e) in
      let none = no_number (files_before b s.names.map) began s.line (unsaved began ∷ []) h.number (files s.names.map)
      h.statuses few h.is_save in
      record {
        number = h.number;
        no_older = h.no_older;
        no_newer = h.no_newer;
        statuses = h.statuses;
        is_save = none.0;
        shows = state;
        stands = subst (λ (f : Option File). Stands f s.end h.statuses state) (sym none.1)
            (subst (λ (l : List Status). Stands (files_before b s.names.map) s.end l state) (sym none.2) stands);
        held = none.2;
      }

  -- what it keeps over an output that could be before it
  abbrev over : (was : File) → CouldBeOutput b s.outfile s.names.draft was → (k : ℕ) (files : List ℕ → Option File)
      → has_barrier (take k calls) ≡ true
      → Leaves (disk_after (over_disk makes b s three opens was) (until (k - 3) (drop 3 calls))) files
      → KeepsOver (λ began shown. []) (λ old began shown number map image. map ≡ began) makes b s calls k files
  over was could k files is left =
      let p = is_safe was [] in
      record {
        was = was;
        could = could;
        output = λ none. output_stands (Same []) Nowhere makes b s [] (unsaved [] ∷ []) calls three opens
            was p k files is
            left none;
        mapfile = λ none. map_stands (Same []) Nowhere makes b s [] (unsaved [] ∷ []) calls three opens was p k files is
            left none;
        there = (found_keeps (Same []) Nowhere makes b s [] (unsaved [] ∷ []) calls three opens was p k files is
            left).there
            ∙ regular_kind (opened_output (files_before b s.outfile)) was could.alike.regular
            ∙ opened_kind makes (files_before b s.outfile) opens;
        kept = λ began state stands. opened_kept was k files began state is left stands;
        unwritten = λ y free_here within. unwritten_stands (Same []) Nowhere makes b s [] (unsaved [] ∷ []) calls three
            opens was p k files is left y free_here within;
      }

  opened_safely : StopsBy (λ began shown. []) (λ old began shown number map image. map ≡ began) makes b s calls
  opened_safely =
      let first : File = opened_output (files_before b s.outfile) in
      record {
        before = λ stop none. could_be_before (Same []) Nowhere makes b s [] (unsaved [] ∷ []) calls three opens first
            (is_safe first []) stop.k stop.files stop.left none;
        past = λ stop is.
            let r = resolved (Same []) Nowhere makes b s [] (unsaved [] ∷ []) calls three opens first (is_safe first [])
            stop.k stop.files stop.left is in
            over r.was r.could stop.k stop.files is r.left;
        reads = λ k within is. (
          over first (could_read makes b s three opens) k (files_after b (take k calls)) is
              (read_left makes b s three opens (tail (Same []) Nowhere makes b s [] (unsaved [] ∷ []) calls three opens
              first (is_safe first [])) calls k (is_safe first []).course.cut is),
          refl,
        );
        others = λ stop name output mapfile draft. others_stand (Same []) Nowhere makes b s []
            (unsaved [] ∷ []) calls three
            opens first (is_safe first []) stop.k stop.files name stop.left
            (record { output = output; map = mapfile; draft = draft; own = three.own });
      }

-- if it wasn't, there is no call after the open
cut_one : (c : Call) (tail : List Call) (calls : List Entry) → length calls ≤ 1 → Cut (c ∷ tail) calls → Cut (c ∷ []) calls
cut_one c tail [] few cut = tt
cut_one c tail (Done x ∷ []) few cut = (cut.0, tt)
cut_one c tail (Done x ∷ e ∷ es) few cut = absurd (omega (arith, few))
cut_one c tail (Failed x steps ∷ es) few cut = cut

none_left : (es : List Entry) (j : ℕ) → Cut [] es → has_barrier (take j es) ≡ true → ⊥
none_left [] zero cut is = absurd (cc)
none_left [] (suc j) cut is = absurd (cc)
none_left (e ∷ es) j cut is = absurd cut

module _ (b : Before) (s : Setting) (three : AreThreeNames s) (calls : List Entry) (few : length calls ≤ 1)
    (e : Early s false calls) where
  one : Cut (image_open s.outfile false ∷ []) calls
  one = cut_one (image_open s.outfile false) _ calls few e.cut

  no_barrier : (k : ℕ) → has_barrier (take k calls) ≡ true → ⊥
  no_barrier k is =
      let p = peel (image_open s.outfile false) [] calls k one is in
      none_left p.rest p.j p.cut (barrier_after (image_open s.outfile false) [] calls k refl p is)

  unopened_others : (k : ℕ) (files : List ℕ → Option File) (name : List ℕ) → LeftBy b calls k files → name ≢ s.outfile
      → (before : List ℕ → Option File) × MayBeLeft b.start b.earlier (length b.earlier) before
      × (files name ≡ before name)
  unopened_others k files name left output =
      let d : Disk = disk_before b in
      let stays : (after_part (image_open s.outfile false) d).shows name ≡ d.shows name
      = at_other d s.outfile name (with_opened false) output in
      let same : (disk_after d (until k calls)).shows name ≡ d.shows name
      = at_stop (λ r p w d'. d'.shows name ≡ d.shows name) 0 0 0 d (image_open s.outfile false ∷ []) calls k
      (refl, (λ steps. stays), stays) one in
      found_could b name files
      (subst (λ (v : Showing). MayShow v (files name)) same (left_by b calls k files left name))

  unopened_safely : StopsBy (λ began shown. []) (λ old began shown number map image. map ≡ began) false b s calls
  unopened_safely = record {
    before = λ stop none. could_before b s false (reads_of s e.given e.at e.answer) calls stop.k stop.files
        three e.cut none
        (left_by b calls stop.k stop.files stop.left);
    past = λ stop is. absurd (no_barrier stop.k is);
    reads = λ k within is. absurd (no_barrier k is);
    others = λ stop name output mapfile draft. unopened_others stop.k stop.files name stop.left output;
  }

early_by : (b : Before) (s : Setting) (makes : Bool) (file : Option File) (calls : List Entry) → AreThreeNames s
    → files_before b s.outfile ≡ file → OpensOrEnds makes file calls → Early s makes calls
    → StopsBy (λ began shown. []) (λ old began shown number map image. map ≡ began) makes b s calls
early_by b s true file calls three is opens e = opened_safely b s true calls three tt e
early_by b s false None calls three is opens e = unopened_safely b s three calls opens e
early_by b s false (Some f) calls three is opens e =
    opened_safely b s false calls three (subst (λ (o : Option File). Opens false o) (sym is) tt) e

pub ends_early_safely : EndsEarlySafely
ends_early_safely b s makes calls on three opens ends =
    early_by b s makes (files_before b s.outfile) calls three refl opens (early s makes (files_before b) calls on ends)
