-- What a rescue holds by the time it is stopped.
use Rattle.std.proofs.Common.{◌≡◌, ◌⊎◌, ⊎_elim, ℕ, zero, suc, ◌+◌, ◌≤◌, Bool, true, false, List, [], ◌∷◌, ◌++◌, length, take, map, All, Option, None, refl, sym, ap, ◌∙◌, subst, arith, append_assoc, append-nil}
use Rattle.std.proofs.lemmas.List.Elements.{All-nil, All-cons, All-head, All-tail, All-append}
use Rattle.block_list.specs.declared.status.Status.{Status}
use Rattle.block_list.specs.declared.status.Status.TheVariants.{Finished}
use Rattle.block_list.specs.Map.{Has}
use Rattle.mapfile_text.specs.declared.state.MapState.{MapState}
use Rattle.faulty_source.specs.Journal.{Reading}
use Rattle.crash_site.specs.declared.site.MapRead.{MapRead}
use Rattle.crash_site.specs.declared.site.SiteCall.TheVariants.{MapRead as MapReadName}
use Rattle.crash_site.specs.Files.{File}
use Rattle.crash_site.specs.Calls.{Call, image_open, image_sync, map_read, map_settle, Entry, Done}
use Rattle.mapfile_save.specs.Loading.{piece_size, piece_reads}
use Rattle.rescue_rules.specs.Setting.{Setting, IsSensible}
use Rattle.rescue_rules.specs.Start.{Stands}
use Rattle.rescue_rules.specs.Machine.{Machine}
use Rattle.rescue_rules.specs.MachineLaws.{IsInOrder}
use Rattle.rescue_rules.specs.Step.{Event}
use Rattle.rescue_rules.specs.Moves.{state_after, IsRun}
use Rattle.rescue_rules.specs.Events.{began_at, reads_of}
use Rattle.rescue_rules.specs.Given.{given}
use Rattle.rescue_rules.specs.Snapshots.{last_snapshot}
use Rattle.rescue_rules.specs.Work.{Gain, begins, events_in, is_map_read, AreMapReads, Goes, InMaps, AfterMaps}
use Rattle.rescue_rules.specs.Stops.{Before, files_before, is_write}
use Rattle.rescue_rules.specs.StopsBy.{is_publish, published, IsSave, saves_of, IsUnwritten, IsKept}
use Rattle.rescue_rules.proofs.CutLemmas.{Cut, add}
use Rattle.rescue_rules.proofs.FinishLemmas.{finished_stands}
use Rattle.rescue_rules.proofs.GoesLemmas.{Course, Way, AnyMap, OneMap, way, broke_cut}
use Rattle.rescue_rules.proofs.MapfileLemmas.{opening_by}
use Rattle.rescue_rules.proofs.OthersLemmas.{reads_of as load_of}
use Rattle.rescue_rules.proofs.PreparationLemmas.{prepares_no_finished}
use Rattle.rescue_rules.proofs.ReadyLemmas.{order_over}
use Rattle.rescue_safety.specs.Safe.{reads_until}
use Rattle.rescue_safety.proofs.Texts.{texts_in, Publish, IsStill, cut_take, still_publish, texts_published}
use Rattle.rescue_safety.proofs.SaveLemmas.{Made, calls_of_run, course_made, goes_made, reads_still, opening_still, load_still}
use Rattle.rescue_safety.proofs.SpareLemmas.{Spares, cut_unwritten, reads_spare, opening_spares, load_spares, Ungiven}
use Rattle.rescue_safety.proofs.ClaimLemmas.{Ran, goes_ran}
use Rattle.rescue_safety.proofs.BegunLemmas.{writes_in, Past, cut_split, count_step, count_both, cut_published, begun, none_begun, saved_begun}
use Rattle.rescue_safety.proofs.ByThenLemmas.{unwritten_both, all_unwritten, run_unwritten}

-- ---- calls that write nothing

abbrev pub IsDry : Call → Type 0
IsDry c = is_write (Done c) ≡ false

pub dry_count : (cs : List Call) → All IsDry cs → writes_in (map Done cs) ≡ 0
dry_count [] dry = refl
dry_count (c ∷ cs) dry =
    let rest : writes_in (map Done cs) ≡ 0 = dry_count cs (All-tail IsDry c cs dry) in
    count_step is_write (Done c) (map Done cs)
    ∙ omega (arith, rest, ap (λ (b : Bool). add b 0) (All-head IsDry c cs dry))

read_dry : (c : Call) → is_map_read c ≡ true → IsDry c
read_dry (map_read name at size answer) is = refl
read_dry c is = absurd (cc)

pub reads_dry : (calls : List Call) → AreMapReads calls → All IsDry calls
reads_dry [] reads = All-nil IsDry
reads_dry (c ∷ calls) reads =
    All-cons IsDry c calls (read_dry c (All-head (λ c. is_map_read c ≡ true) c calls reads))
    (reads_dry calls (All-tail (λ c. is_map_read c ≡ true) c calls reads))

opening_dry : (s : Setting) → All IsDry (opening_by s true)
opening_dry s =
    All-cons IsDry (image_open s.outfile true) (map_settle s.names.map ∷ image_sync ∷ []) refl
    (All-cons IsDry (map_settle s.names.map) (image_sync ∷ []) refl (All-cons IsDry image_sync [] refl (All-nil IsDry)))

pieces_dry : (name : List ℕ) (pos : ℕ) (given : List ℕ) → All IsDry (piece_reads name pos given)
pieces_dry name pos [] = All-nil IsDry
pieces_dry name pos (n ∷ ns) =
    All-cons IsDry _ (piece_reads name (pos + n) ns) refl (pieces_dry name (pos + n) ns)

load_dry : (s : Setting) (given : List ℕ) (at : ℕ) (answer : Option MapRead) → All IsDry (load_of s given at answer)
load_dry s given at answer =
    All-append IsDry (piece_reads s.names.map 0 given) (map_read s.names.map at piece_size answer ∷ [])
    (pieces_dry s.names.map 0 given)
    (All-cons IsDry (map_read s.names.map at piece_size answer) [] refl (All-nil IsDry))

pub still_published : (cs : List Call) → All IsStill cs → published (map Done cs) ≡ 0
still_published cs still =
    let whole : Publish (map Done cs) []
    = subst (λ (l : List Entry). Publish l []) (append-nil (map Done cs)) (still_publish cs [] [] still (λ d. refl)) in
    let none : length (texts_in (map Done cs)) ≡ 0 = ap (λ (l : List (List ℕ)). length l) (whole []) in
    omega (arith, none, texts_published (map Done cs))

-- ---- the calls before a run, and the run's

module _ (s : Setting) (began : List Status) (state : Option MapState) (g : Gain) (made : Made s began state g) where
  abbrev pub load : List Call
  load = load_of s made.given made.at made.answer

  abbrev pub front : List Call
  front = made.maps ++ (opening_by s true ++ load)

  abbrev pub run_calls : List Call
  run_calls = calls_of_run s began state g

  pub all_dry : All IsDry front
  all_dry =
      All-append IsDry made.maps (opening_by s true ++ load) (reads_dry made.maps made.are_reads)
      (All-append IsDry (opening_by s true) load (opening_dry s) (load_dry s made.given made.at made.answer))

  front_dry : writes_in (map Done front) ≡ 0
  front_dry = dry_count front all_dry

  pub front_still : published (map Done front) ≡ 0
  front_still =
      still_published front (All-append IsStill made.maps (opening_by s true ++ load) (reads_still made.maps made.are_reads)
      (All-append IsStill (opening_by s true) load (opening_still s true) (load_still s made.given made.at made.answer)))

  front_spares : (y : ℕ) → All (Spares y) front
  front_spares y =
      All-append (Spares y) made.maps (opening_by s true ++ load) (reads_spare y made.maps made.are_reads)
      (All-append (Spares y) (opening_by s true) load (opening_spares s y) (load_spares s y made.given made.at made.answer))

  -- the first calls are a part of the front, or go past it
  pub parts : (k : ℕ) → Cut front (take k g.calls) ⊎ Past front run_calls (take k g.calls)
  parts k =
      cut_split front run_calls (take k g.calls)
      (subst (λ (l : List Call). Cut l (take k g.calls))
      (sym (append_assoc made.maps (opening_by s true ++ load) run_calls
      ∙ ap (λ (l : List Call). made.maps ++ l) (append_assoc (opening_by s true) load run_calls)))
      (cut_take k (made.maps ++ (opening_by s true ++ (load ++ run_calls))) g.calls made.cut))

  pub past_writes : (part : List Entry) (c : Past front run_calls part) → writes_in part ≡ writes_in c.rest
  past_writes part c =
      ap writes_in c.is ∙ count_both is_write (map Done front) c.rest
      ∙ ap (λ (n : ℕ). n + writes_in c.rest) front_dry ∙ omega arith

  pub past_published : (part : List Entry) (c : Past front run_calls part) → published part ≡ published c.rest
  past_published part c =
      ap published c.is ∙ count_both is_publish (map Done front) c.rest
      ∙ ap (λ (n : ℕ). n + published c.rest) front_still ∙ omega arith

  abbrev m : Machine
  m = begins s began state g

  abbrev es : List Event
  es = events_in g

  module _ (ok : IsSensible s) (order : IsInOrder s m) (run : IsRun s m es) where
    -- a place whose position no read gave a byte that had begun to be written
    then_unwritten : (y k : ℕ) → Ungiven s ok y (reads_until s.sector (writes_in (take k g.calls)) (reads_of es))
        → IsUnwritten (take k g.calls) y
    then_unwritten y k none =
        ⊎_elim (λ (c : Cut front (take k g.calls)). cut_unwritten y front (take k g.calls) (front_spares y) c)
        (λ (c : Past front run_calls (take k g.calls)).
        subst (λ (l : List Entry). IsUnwritten l y) (sym c.is)
        (unwritten_both y (map Done front) c.rest (all_unwritten y front (front_spares y))
        (run_unwritten s ok y m es (last_snapshot s (state_after s m es)) c.rest order run c.cut
        (subst (λ (n : ℕ). Ungiven s ok y (reads_until s.sector n (reads_of es))) (past_writes (take k g.calls) c) none))))
        (parts k)

    was_none : (x : ℕ) → Has began Finished x → given s.sector (reads_of es) x ≡ None
    was_none x has =
        (finished_stands s m es x ok order run
        (((prepares_no_finished s.domain s.try_again s.retrim began).each x).0 has)).0

    -- a position that a save finishes which had begun to be published
    then_given : (k number : ℕ) (old found : Option File) (statuses : List Status) (x : ℕ)
        → IsSave old began s.line (saves_of s began state g) number found statuses → number ≤ published (take k g.calls)
        → Has statuses Finished x
        → begun s.sector x (writes_in (take k g.calls)) (reads_of es) ≡ given s.sector (reads_of es) x
    then_given k zero old found statuses x is few has =
        let none : given s.sector (reads_of es) x ≡ None
        = was_none x (subst (λ (l : List Status). Has l Finished x) is.1 has) in
        none_begun s.sector x (writes_in (take k g.calls)) (reads_of es) none ∙ sym none
    then_given k (suc i) old found statuses x is few has =
        ⊎_elim
        (λ (c : Cut front (take k g.calls)).
        absurd (let no : ⊥ = omega (arith, few, cut_published front (take k g.calls) c, front_still) in no))
        (λ (c : Past front run_calls (take k g.calls)).
        ap (λ (n : ℕ). begun s.sector x n (reads_of es)) (past_writes (take k g.calls) c)
        ∙ saved_begun s ok x m es (last_snapshot s (state_after s m es)) c.rest i is.0 order run c.cut is.1
        (omega (arith, few, past_published (take k g.calls) c))
        (subst (λ (l : List Status). Has l Finished x) is.2 has))
        (parts k)

-- ---- of a rescue

pub kept_given : {old : List ℕ} (b : Before) (s : Setting) (g : Gain) (began : List Status) (state : Option MapState)
    (ok : IsSensible s)
    → s.has_mapfile ≡ true → Goes s (files_before b) g → Stands (files_before b s.names.map) s.end began state
    → (k : ℕ) (files : List ℕ → Option File) (kept : IsKept b s g old began state k files) (x : ℕ)
    → Has kept.statuses Finished x
    → given s.sector (reads_until s.sector (writes_in (take (k + 1) g.calls)) g.reads) x ≡ given s.sector g.reads x
kept_given b s g began state ok on goes stands k files kept x has =
    let ran : Ran s began state g = goes_ran s (files_before b) g began state on goes stands in
    subst (λ (rs : List Reading). given s.sector (reads_until s.sector (writes_in (take (k + 1) g.calls)) rs) x ≡ given s.sector rs x)
    ran.reads
    (then_given s began state g (goes_made s (files_before b) g began state on goes stands) ok
    (order_over s began state (began_at g.times)) ran.run (k + 1) kept.number (files_before b s.names.map)
    (files s.names.map) kept.statuses x kept.is_save kept.no_newer has)

module _ (s : Setting) (ok : IsSensible s) (y : ℕ) where
  abbrev UngivenThen : ℕ → Gain → Type 0
  UngivenThen k g = Ungiven s ok y (reads_until s.sector (writes_in (take k g.calls)) g.reads)

  course_unwritten : (began : List Status) (state : Option MapState) (g : Gain) (k : ℕ) (maps : List Call)
      (rest : List Entry) → AreMapReads maps → g.calls ≡ map Done maps ++ rest
      → Course s began state (record g { calls = rest }) → UngivenThen k g → IsUnwritten (take k g.calls) y
  course_unwritten began state g k maps rest reads is c none =
      then_unwritten s began state g (course_made s began state g maps rest reads is c) ok
      (order_over s began state (began_at g.times)) c.run y k
      (subst (λ (rs : List Reading). Ungiven s ok y (reads_until s.sector (writes_in (take k g.calls)) rs)) (sym c.reads) none)

  way_unwritten : (files : List ℕ → Option File) (g : Gain) (k : ℕ) (maps : List Call) (rest : List Entry)
      → AreMapReads maps → g.calls ≡ map Done maps ++ rest → Way s files (record g { calls = rest })
      → UngivenThen k g → IsUnwritten (take k g.calls) y
  way_unwritten files g k maps rest reads is (AnyMap any) none =
      course_unwritten [] None g k maps rest reads is (any [] None) none
  way_unwritten files g k maps rest reads is (OneMap map at was course) none =
      course_unwritten map at g k maps rest reads is course none

  pub goes_unwritten : (files : List ℕ → Option File) (g : Gain) (k : ℕ) → s.has_mapfile ≡ true → Goes s files g
      → UngivenThen k g → IsUnwritten (take k g.calls) y
  goes_unwritten files g k on (InMaps maps reads never broke) none =
      cut_unwritten y maps (take k g.calls) (reads_spare y maps reads)
      (cut_take k maps g.calls (broke_cut MapReadName [] maps g.calls broke))
  goes_unwritten files g k on (AfterMaps maps rest reads is goes) none =
      way_unwritten files g k maps rest reads is (way s files (record g { calls = rest }) on goes) none
