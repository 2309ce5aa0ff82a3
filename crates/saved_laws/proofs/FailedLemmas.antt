-- What failed was asked for.
use Rattle.std.proofs.Common.{◌≡◌, ◌⊎◌, inl, inr, ⊎_elim, ℕ, zero, suc, ◌+◌, ◌-◌, ◌<◌, ◌≤◌, Bool, true, false, not, if◌then◌else◌, nat_eq, List, [], ◌∷◌, ◌++◌, length, take, replicate, map, min, max, ◌&&◌, nat_lt, Option, Some, None, refl, sym, ap, ◌∙◌, subst, arith, append_assoc}
use Rattle.std.specs.Bool.{⊤}
use Rattle.std.specs.List.{flat_map, slice_get}
use Rattle.std.proofs.Math.Nat.{div-mul-le_self}
use Rattle.std.proofs.lemmas.Bool.{cases_Bool, cases_lt, cond_both, cond-true, and_from, lt-ltb, false_from_ne_true}
use Rattle.std.proofs.lemmas.Option.{same_Some, none-some, slice_get_within}
use Rattle.std.proofs.lemmas.List.Elements.{All-nil, All-cons}
use Rattle.block_list.specs.declared.status.Status.{Status}
use Rattle.block_list.specs.declared.status.Status.TheVariants.{NonTried, NonTrimmed, NonScraped, BadSector, Finished}
use Rattle.block_list.specs.Map.{Has, extended}
use Rattle.block_list.proofs.Places.{slice_get-append_left, slice_get-append_right}
use Rattle.mapfile_text.specs.declared.read.Mode.TheVariants.{Tight}
use Rattle.mapfile_text.specs.declared.state.MapState.{MapState}
use Rattle.mapfile_text.proofs.OneReading.{has_one_reading}
use Rattle.mapfile_text.proofs.MapLemmas.{map_is_not_blank}
use Rattle.faulty_source.specs.Journal.{Reading, is_failed, kept, covers, floor}
use Rattle.crash_site.specs.Files.{File}
use Rattle.crash_site.specs.Calls.{Call, Entry, Done}
use Rattle.mapfile_save.specs.Saving.{save_calls}
use Rattle.rescue_rules.specs.declared.stop.TrimMode.{TrimMode}
use Rattle.rescue_rules.specs.declared.stop.TrimMode.TheVariants.{Lead, Tail}
use Rattle.rescue_rules.specs.declared.phase.Phase.{Phase}
use Rattle.rescue_rules.specs.declared.phase.Phase.TheVariants.{Copying, Trimming, Scraping, Retrying}
use Rattle.rescue_rules.specs.Passes.{taken}
use Rattle.rescue_rules.specs.Counts.{has_failed}
use Rattle.rescue_rules.specs.Setting.{Setting, IsSensible, place}
use Rattle.rescue_rules.specs.Start.{TextStands, AsNone, AsMap, Stands}
use Rattle.rescue_rules.specs.Machine.{Machine, Search, pass_of, search_in, search_of, ceiling, IsRequest}
use Rattle.rescue_rules.specs.MachineLaws.{AsksFor, IsInOrder}
use Rattle.rescue_rules.specs.Step.{Event, map_after, scraped, copies, is_copying, rest_status}
use Rattle.rescue_rules.specs.Moves.{ready, move_of, state_after, has_ended, IsMove, IsRun}
use Rattle.rescue_rules.specs.Events.{began_at, reads_of}
use Rattle.rescue_rules.specs.Preparation.{tried_again, trimmed_again, if_asked, prepared_status, changed_from}
use Rattle.rescue_rules.specs.Snapshots.{Snapshot, text_of, snapshot_of, finished_snapshot, is_due, last_snapshot, snapshots}
use Rattle.rescue_rules.specs.Deeds.{deed_calls, save_of}
use Rattle.rescue_rules.specs.RunDeeds.{run_deeds}
use Rattle.rescue_rules.specs.RunCalls.{write_calls}
use Rattle.rescue_rules.proofs.CutLemmas.{Cut, add}
use Rattle.rescue_rules.proofs.DeedStages.{last_calls, all_calls}
use Rattle.rescue_rules.specs.Stops.{files_before, has_barrier, LeftBy}
use Rattle.rescue_rules.specs.StopsBy.{is_publish, published, IsSave, saves_of}
use Rattle.rescue_rules.specs.Work.{begins, events_in}
use Rattle.rescue_rules.proofs.FinishLemmas.{run_steps}
use Rattle.rescue_rules.proofs.GivenLemmas.{Covered, covered_here}
use Rattle.rescue_rules.proofs.MarkLemmas.{marked_inside}
use Rattle.rescue_rules.proofs.MoveLemmas.{run_first, run_rest}
use Rattle.rescue_rules.proofs.MoveStages.{due_first}
use Rattle.rescue_rules.proofs.RoundLemmas.{ceiling_above}
use Rattle.rescue_rules.proofs.ReadyLemmas.{order_ready, order_over, stays_ready}
use Rattle.rescue_rules.proofs.SnapshotLemmas.{one_of}
use Rattle.rescue_rules.proofs.StatusLemmas.{has_marks, wanted_taken}
use Rattle.rescue_rules.proofs.StepLemmas.{Taking, read_takes, with_kept, with_rest, pos_there, back_low, Apart, kept_apart, rest_apart, kept_finished, rest_marked, rest_stands, scraped_outside, tail_trims, trims_is}
use Rattle.rescue_safety.specs.Safe.{reads_until}
use Rattle.rescue_safety.specs.Finishes.{Says}
use Rattle.saved_laws.specs.Failed.{Marks, FailedOf, FailedAt, may_have_read}
use Rattle.rescue_safety.specs.AskedFor.{AreSeen}
use Rattle.rescue_safety.specs.Rescue.{Rescue, run_of}
use Rattle.saved_laws.specs.Laws.{BadWasAsked, FailedWasAsked}
use Rattle.rescue_safety.proofs.BegunLemmas.{writes_in, Past, cut_split, count_both, cut_published, save_published, write_counted, write_unpublished, save_unwritten}
use Rattle.rescue_safety.proofs.ClaimLemmas.{Ran, goes_ran}
use Rattle.rescue_safety.proofs.SaveLemmas.{Made, calls_of_run, goes_made}
use Rattle.rescue_safety.proofs.ThenLemmas.{front, front_still, parts, past_writes, past_published}
use Rattle.rescue_safety.proofs.FinishedLemmas.{StandsAt, At}
use Rattle.rescue_safety.proofs.QuietLemmas.{SavesNone, none_or_stands}
use Rattle.rescue_safety.proofs.SafeLemmas.{s, g, b, on, ok, goes, over, calls_are, map_is, seen_alone}

-- ---- what a mapfile calls a position that was tried

same_file : (f h : File) → Some f ≡ Some h → h ≡ f
same_file f h is = cc

module _ (u : Status) (tried : NonTried ≡ u → ⊥) where
  never_fresh : (n x : ℕ) → Has (replicate n NonTried) u x → ⊥
  never_fresh n x has = tried (sym (has_marks n NonTried u x has))

  from_longer : (statuses : List Status) (end x : ℕ) → Has (extended statuses end) u x → Has statuses u x
  from_longer statuses end x has =
      let more : List Status = replicate (end - length statuses) NonTried in
      ⊎_elim
      (λ (lt : x < length statuses). sym (slice_get-append_left statuses more x lt) ∙ has)
      (λ (ge : length statuses ≤ x).
      absurd (never_fresh (end - length statuses) (x - length statuses) (sym (slice_get-append_right statuses more x ge) ∙ has)))
      (cases_lt x (length statuses))

  to_longer : (statuses : List Status) (end x : ℕ) → Has statuses u x → Has (extended statuses end) u x
  to_longer statuses end x has =
      slice_get-append_left statuses (replicate (end - length statuses) NonTried) x (slice_get_within statuses x u has) ∙ has

  text_calls : (f : File) (end x : ℕ) (map : List Status) (state : Option MapState) → TextStands f.bytes end map state
      → Has map u x → Marks (Some f) u x
  text_calls f end x map state (AsNone blank fresh) has =
      absurd (never_fresh end x (subst (λ (m : List Status). Has m u x) fresh.map_is has))
  text_calls f end x map state (AsMap r) has = record {
    there = f;
    is = refl;
    says = record {
      shown = r.shown;
      first = r.first;
      listed = r.listed;
      statuses = r.statuses;
      reads = r.reads;
      has = from_longer r.statuses end x (subst (λ (m : List Status). Has m u x) r.map_is has);
    };
  }

  -- it is what each map has that it stands for
  pub calls_by : (mapfile : Option File) (end x : ℕ) (map : List Status) (state : Option MapState)
      → Stands mapfile end map state → Has map u x → Marks mapfile u x
  calls_by None end x map state p has =
      absurd (never_fresh end x (subst (λ (m : List Status). Has m u x) p.stands.map_is has))
  calls_by (Some f) end x map state p has = text_calls f end x map state p.stands has

  there_says : (f : File) (x : ℕ) → Marks (Some f) u x → Says f.bytes u x
  there_says f x c = subst (λ (h : File). Says h.bytes u x) (same_file f c.there c.is) c.says

  text_has : (text : List ℕ) (end x : ℕ) (map : List Status) (state : Option MapState) → TextStands text end map state
      → Says text u x → Has map u x
  text_has text end x map state (AsNone blank fresh) c =
      absurd (map_is_not_blank text Tight c.shown c.first c.listed c.statuses c.reads blank)
  text_has text end x map state (AsMap r) c =
      let same = has_one_reading text Tight r.shown c.shown r.first c.first r.listed c.listed r.statuses c.statuses r.reads c.reads in
      subst (λ (m : List Status). Has m u x) (sym r.map_is)
      (to_longer r.statuses end x (subst (λ (m : List Status). Has m u x) (sym same.statuses_is) c.has))

  pub has_by : (mapfile : Option File) (end x : ℕ) (map : List Status) (state : Option MapState)
      → Stands mapfile end map state → Marks mapfile u x → Has map u x
  has_by None end x map state p c = let e : None ≡ Some c.there = c.is in absurd (cc)
  has_by (Some f) end x map state p c = text_has f.bytes end x map state p.stands (there_says f x c)

-- ---- preparation

if_asked_back : (U : Status → Type 0) (d : Bool) (f : Status → Status) (w : Status) → (U (f w) → U w) → U (if_asked d f w) → U w
if_asked_back U true f w back is = back is
if_asked_back U false f w back is = is

-- where a status comes from that preparation left
record Prepared (U : Status → Type 0) (map : List Status) (x : ℕ) : Type 0 where
  was : Status
  so : U was
  has : Has map was x

changed_back : (U : Status → Type 0) (domain : ℕ → Bool) (change : Status → Status) (at : ℕ) (map : List Status) (x : ℕ)
    (u : Status) → ((w : Status) → U (change w) → U w) → U u → Has (changed_from domain change at map) u x → Prepared U map x
changed_back U domain change at [] x u back is has = absurd (none-some u has)
changed_back U domain change at (w ∷ map) zero u back is has = record {
  was = w;
  so = if_asked_back U (domain at) change w (back w)
      (subst U (sym (same_Some (if_asked (domain at) change w) u has)) is);
  has = refl;
}
changed_back U domain change at (w ∷ map) (suc x) u back is has =
    let more : Prepared U map x = changed_back U domain change (at + 1) map x u back is has in
    record { was = more.was; so = more.so; has = more.has }

-- ---- a run

-- Of these statuses none is that of a position that wasn't tried or is finished. What is left to scrape was left to
-- trim. Preparation makes none, and a read that leaves one is such a read.
pub record AreFailures (U : Status → Type 0) (V : ℕ → Reading → Type 0) : Type 0 where
  pub untried : U NonTried → ⊥
  pub unfinished : U Finished → ⊥
  pub trimmed : U NonScraped → U NonTrimmed
  pub again : (w : Status) → U (tried_again w) → U w
  pub retrimmed : (w : Status) → U (trimmed_again w) → U w
  pub leaves : (s : Setting) (m : Machine) (r : Reading) → 0 < s.sector → IsRequest s m r.pos (r.pos + r.asked)
      → U (rest_status s m (r.asked - kept s.sector r)) → V s.sector r

module _ (U : Status → Type 0) (V : ℕ → Reading → Type 0) (are : AreFailures U V) (s : Setting) (ok : IsSensible s) (x : ℕ)
  where
    -- a position has one of these statuses
    abbrev pub Fails : List Status → Type 0
    Fails map = (was : Status) × U was × Has map was x

    -- this read asked for it in vain
    record InVain (r : Reading) : Type 0 where
      asks : AsksFor r x
      failed : is_failed r ≡ true
      lost : covers s.sector r x ≡ false
      such : V s.sector r

    -- one of these did, and is such a read
    abbrev pub Asked : List Reading → Type 0
    Asked rs = (f : FailedOf s.sector rs x) × V s.sector f.read

    module _ (m : Machine) (r : Reading) (t : Taking s m r) (asks : IsRequest s m r.pos (r.pos + r.asked))
        (order : IsInOrder s m) (u : Status) (so : U u) where
      abbrev rest : List Status
      rest = with_rest s m r

      abbrev From : List Status → Type 0
      From map = Has map u x → Fails m.map ⊎ InVain r

      stood : (map : List Status) → slice_get map x ≡ slice_get m.map x → From map
      stood map is has = inl (u, so, sym is ∙ has)

      -- between a range's front and its back all was left to trim
      between : (low : ℕ) → m.progress.mode ≡ Tail low → low ≤ x → x < r.pos → From (scraped m.progress.mode r.pos rest)
      between low is from to has =
          let le : low ≤ r.pos = back_low s m r t low is in
          let here : Has (scraped m.progress.mode r.pos rest) NonScraped x
          = ap (λ (mode : TrimMode). slice_get (scraped mode r.pos rest) x) is
          ∙ marked_inside rest low (r.pos - low) NonScraped x (omega (arith, pos_there s m r t, le)) from (omega (arith, to, le)) in
          let same : u ≡ NonScraped = same_Some u NonScraped (sym has ∙ here) in
          let trims : taken (pass_of m).phase ≡ NonTrimmed
          = ap taken (trims_is (pass_of m).phase (tail_trims s m low order is)) in
          let was : Has m.map (taken (pass_of m).phase) x = wanted_taken s m x ((t.back low is).wanted x from to) in
          inl (NonTrimmed, are.trimmed (subst U same so), subst (λ (v : Status). Has m.map v x) trims was)

      outside : ((low : ℕ) → m.progress.mode ≡ Tail low → (x < low) ⊎ (r.pos ≤ x)) → Apart r x
          → From (scraped m.progress.mode r.pos rest)
      outside off apart =
          stood (scraped m.progress.mode r.pos rest)
          (scraped_outside m.progress.mode r.pos rest x (pos_there s m r t) (back_low s m r t) off ∙ rest_apart s m r x t apart)

      before : (mode : TrimMode) → m.progress.mode ≡ mode → x < r.pos → From (scraped m.progress.mode r.pos rest)
      before Lead is lt = outside (λ low at. let e : Tail low ≡ Lead = sym at ∙ is in absurd (cc)) (inl lt)
      before (Tail low) is lt =
          ⊎_elim
          (λ (early : x < low).
          outside (λ other at. let same : low ≡ other = (let e : Tail low ≡ Tail other = sym is ∙ at in cc) in inl (omega (arith, same, early))) (inl lt))
          (λ (late : low ≤ x). between low is late lt)
          (cases_lt x low)

      abbrev after : List Status
      after = map_after s m r

      by_read : (apart : Apart r x) → From (scraped m.progress.mode r.pos rest) → From (map_after s m r)
      by_read apart failed =
          cond_both (is_failed r) (scraped m.progress.mode r.pos rest) (with_kept s m r) From
          (λ is. failed) (λ good. stood (with_kept s m r) (kept_apart s m r x t apart))

      inside : r.pos ≤ x → x < r.pos + r.asked → From (map_after s m r)
      inside from to has =
          ⊎_elim
          (λ (early : x < r.pos + kept s.sector r).
          let same : u ≡ Finished = same_Some u Finished (sym has ∙ kept_finished s m r x t from early) in
          absurd (are.unfinished (subst U same so)))
          (λ (late : r.pos + kept s.sector r ≤ x).
          ⊎_elim
          (λ (failed : is_failed r ≡ true).
          inr (record {
            asks = record { from = from; to = to };
            failed = failed;
            lost = false_from_ne_true (covers s.sector r x) (λ on.
                let c : Covered s.sector r x = covered_here s.sector r x on in
                let no : ⊥ = omega (arith, late, c.to) in no);
            such = are.leaves s m r ok.sector asks
                (subst U (same_Some u (rest_status s m (r.asked - kept s.sector r))
                (sym has ∙ rest_marked s m r x t failed late to)) so);
          }))
          (λ (good : is_failed r ≡ false). stood (map_after s m r) (rest_stands s m r x t good late) has)
          (cases_Bool (is_failed r)))
          (cases_lt x (r.pos + kept s.sector r))

      step_back : From (map_after s m r)
      step_back =
          ⊎_elim
          (λ (early : x < r.pos). by_read (inl early) (before m.progress.mode refl early))
          (λ (from : r.pos ≤ x).
          ⊎_elim
          (λ (to : x < r.pos + r.asked). inside from to)
          (λ (late : r.pos + r.asked ≤ x). by_read (inr late) (outside (λ low at. inr from) (inr late)))
          (cases_lt x (r.pos + r.asked)))
          (cases_lt x r.pos)

    -- ---- over a run

    abbrev Comes : List Status → List Reading → Snapshot → Type 0
    Comes map reads p = (u : Status) → U u → Has p.map u x → Fails map ⊎ Asked reads

    later : (r : Reading) (rs : List Reading) → Asked rs → Asked (r ∷ rs)
    later r rs f = (
      record {
        number = suc f.0.number;
        read = f.0.read;
        is = f.0.is;
        asks = f.0.asks;
        failed = f.0.failed;
        lost = f.0.lost;
      },
      f.1,
    )

    last_comes : (m : Machine) → Comes m.map [] (last_snapshot s m)
    last_comes m =
        cond_both (has_ended s m) (finished_snapshot m) (snapshot_of m) (Comes m.map [])
        (λ is u so has. inl (u, so, has)) (λ is u so has. inl (u, so, has))

    -- what a move leaves
    moved_back : (m : Machine) (e : Event) (es : List Event) → IsInOrder s m → IsRun s m (e ∷ es) → (u : Status) → U u
        → Has (move_of s m e).after.map u x → Fails m.map ⊎ InVain e.reading
    moved_back m e es order run u so has =
        let v : IsMove s (move_of s m e) = run_first s m e es run in
        let ready_order : IsInOrder s (ready s m) = order_ready s m order in
        let t : Taking s (ready s m) e.reading = read_takes s (ready s m) e.reading ok ready_order v.request v.few in
        subst (λ (map : List Status). Fails map ⊎ InVain e.reading) (stays_ready s m).map
        (step_back (ready s m) e.reading t v.request ready_order u so has)

    here_failed : (r : Reading) (rs : List Reading) → InVain r → Asked (r ∷ rs)
    here_failed r rs f = (
      record { number = 0; read = r; is = refl; asks = f.asks; failed = f.failed; lost = f.lost },
      f.such,
    )

    first_comes : (m : Machine) (e : Event) (es : List Event) (rs : List Reading) → IsInOrder s m → IsRun s m (e ∷ es)
        → Comes m.map (e.reading ∷ rs) (snapshot_of (move_of s m e).after)
    first_comes m e es rs order run u so has =
        ⊎_elim (λ (f : Fails m.map). inl f) (λ (f : InVain e.reading). inr (here_failed e.reading rs f))
        (moved_back m e es order run u so has)

    rest_comes : (m : Machine) (e : Event) (es : List Event) (rs : List Reading) (p : Snapshot) → IsInOrder s m
        → IsRun s m (e ∷ es) → Comes (move_of s m e).after.map rs p → Comes m.map (e.reading ∷ rs) p
    rest_comes m e es rs p order run comes u so has =
        ⊎_elim
        (λ (f : Fails (move_of s m e).after.map). first_comes m e es rs order run f.0 f.1 f.2)
        (λ (f : Asked rs). inr (later e.reading rs f))
        (comes u so has)

    -- a read more that may have been made
    more_by : (none : Bool) (w : ℕ) (r : Reading) (rs : List Reading)
        → r ∷ reads_until s.sector (if none then suc (add (not none) w) else add (not none) w) rs
        ≡ r ∷ reads_until s.sector (suc w) rs
    more_by true w r rs = refl
    more_by false w r rs = refl

    module _ (m : Machine) (e : Event) (es : List Event) (last : Snapshot) (order : IsInOrder s m) (run : IsRun s m (e ∷ es))
      where
        abbrev n : Machine
        n = (move_of s m e).after

        abbrev r : Reading
        r = e.reading

        abbrev rs : List Reading
        rs = reads_of es

        abbrev calls_later : List Call
        calls_later = all_calls s (run_deeds s n es) last

        abbrev Later : Type 0
        Later = (part : List Entry) (i : ℕ) (p : Snapshot) → Cut calls_later part → slice_get (snapshots s n es) i ≡ Some p
            → i < published part → Comes n.map (reads_until s.sector (suc (writes_in part)) rs) p

        come_save : Later → (due : Bool) (part : List Entry) (i : ℕ) (p : Snapshot)
            → Cut (save_of s (if due then Some (snapshot_of n) else None) ++ calls_later) part
            → slice_get ((if due then snapshot_of n ∷ [] else []) ++ snapshots s n es) i ≡ Some p → i < published part
            → Comes m.map (r ∷ reads_until s.sector (suc (writes_in part)) rs) p
        come_save ih false part i p cut at low =
            rest_comes m e es (reads_until s.sector (suc (writes_in part)) rs) p order run (ih part i p cut at low)
        come_save ih true part zero p cut at low =
            let kept_reads : List Reading = reads_until s.sector (suc (writes_in part)) rs in
            subst (λ (q : Snapshot). Comes m.map (r ∷ kept_reads) q) (same_Some (snapshot_of n) p at)
            (first_comes m e es kept_reads order run)
        come_save ih true part (suc i) p cut at low =
            let text : List ℕ = text_of s.line (snapshot_of n) in
            let save : List Call = save_calls s.names text in
            ⊎_elim
            (λ (c : Cut save part).
            absurd (let no : ⊥ = omega (arith, low, cut_published save part c, save_published s.names text) in no))
            (λ (c : Past save calls_later part).
            let more : published part ≡ 1 + published c.rest
            = ap published c.is ∙ count_both is_publish (map Done save) c.rest
            ∙ ap (λ (k : ℕ). k + published c.rest) (save_published s.names text) in
            let same : writes_in part ≡ writes_in c.rest = ap writes_in c.is ∙ save_unwritten s ok x s.names text c.rest in
            subst (λ (k : ℕ). Comes m.map (r ∷ reads_until s.sector (suc k) rs) p) (sym same)
            (rest_comes m e es (reads_until s.sector (suc (writes_in c.rest)) rs) p order run
            (ih c.rest i p c.cut at (omega (arith, low, more)))))
            (cut_split save calls_later part cut)

        come_more : Later → (part : List Entry) (i : ℕ) (p : Snapshot)
            → Cut (all_calls s (run_deeds s m (e ∷ es)) last) part → slice_get (snapshots s m (e ∷ es)) i ≡ Some p
            → i < published part → Comes m.map (reads_until s.sector (suc (writes_in part)) (r ∷ rs)) p
        come_more ih part i p cut at low =
            let write : List Call = write_calls s r in
            let due : Bool = is_due s (move_of s m e) in
            let save : List Call = save_of s (if due then Some (snapshot_of n) else None) in
            let deeds : List Call = flat_map (deed_calls s) (run_deeds s n es) in
            let none : Bool = nat_eq (kept s.sector r) 0 in
            let piece : List ℕ = take (kept s.sector r) r.given in
            let here : Cut (write ++ (save ++ calls_later)) part
            = subst (λ (l : List Call). Cut l part)
            (append_assoc (write ++ save) deeds (last_calls s last) ∙ append_assoc write save calls_later) cut in
            ⊎_elim
            (λ (c : Cut write part).
            absurd (let no : ⊥ = omega (
              arith,
              low,
              cut_published write part c,
              write_unpublished s ok x none (place s r.pos) piece,
            ) in no))
            (λ (c : Past write (save ++ calls_later) part).
            let same : published part ≡ published c.rest
            = ap published c.is ∙ count_both is_publish (map Done write) c.rest
            ∙ ap (λ (k : ℕ). k + published c.rest) (write_unpublished s ok x none (place s r.pos) piece) ∙ omega arith in
            let count : writes_in part ≡ add (not none) (writes_in c.rest)
            = ap writes_in c.is ∙ write_counted s ok x none (place s r.pos) piece c.rest in
            let reads : reads_until s.sector (suc (writes_in part)) (r ∷ rs) ≡ r ∷ reads_until s.sector (suc (writes_in c.rest)) rs
            = ap (λ (k : ℕ). reads_until s.sector (suc k) (r ∷ rs)) count ∙ more_by none (writes_in c.rest) r rs in
            subst (λ (l : List Reading). Comes m.map l p) (sym reads)
            (come_save ih due c.rest i p c.cut
            (subst (λ (l : List Snapshot). slice_get l i ≡ Some p) (due_first s m e es due refl) at)
            (omega (arith, low, same))))
            (cut_split write (save ++ calls_later) part here)

    -- each save's failures were there, or a read asked for them in vain that may have been made when it was published
    pub saves_come : (m : Machine) (es : List Event) (last : Snapshot) (part : List Entry) (i : ℕ) (p : Snapshot)
        → IsInOrder s m → IsRun s m es → Cut (all_calls s (run_deeds s m es) last) part
        → slice_get (snapshots s m es) i ≡ Some p → i < published part
        → Comes m.map (reads_until s.sector (suc (writes_in part)) (reads_of es)) p
    saves_come m [] last part i p order run cut at low =
        one_of (Comes m.map []) (last_snapshot s m ∷ []) i p
        (All-cons (Comes m.map []) (last_snapshot s m) [] (last_comes m) (All-nil (Comes m.map []))) at
    saves_come m (e ∷ es) last part i p order run cut at low =
        come_more m e es last order run
        (λ rest j q c there few. saves_come (move_of s m e).after es last rest j q (run_steps s ok m e es order run).order
        (run_rest s m e es run) c there few)
        part i p cut at low

-- ---- a stop

prepared_back : (U : Status → Type 0) (V : ℕ → Reading → Type 0) → AreFailures U V → (try_again retrim : Bool) (w : Status)
    → U (prepared_status try_again retrim w) → U w
prepared_back U V are try_again retrim w is =
    if_asked_back U try_again tried_again w (are.again w)
    (if_asked_back U retrim trimmed_again (if_asked try_again tried_again w) (are.retrimmed (if_asked try_again tried_again w)) is)

module _ (U : Status → Type 0) (V : ℕ → Reading → Type 0) (are : AreFailures U V) (r : Rescue) (k : ℕ) (files : List ℕ → Option File) (u : Status)
    (x : ℕ) (le : k ≤ length (g r).calls) (left : LeftBy (b r) (g r).calls k files)
    (barrier : has_barrier (take k (g r).calls) ≡ true) (so : U u) (calls : Marks (files (s r).names.map) u x) where
  abbrev by_now : List Reading
  by_now = reads_until (s r).sector (suc (writes_in (take (k + 1) (g r).calls))) (g r).reads

  abbrev old : Option File
  old = files_before (b r) (s r).names.map

  abbrev Source : Type 0
  Source = ((was : Status) × U was × Marks (files_before (b r) (s r).names.map) was x) ⊎ Asked U V are (s r) (ok r) x (reads_until (s r).sector (suc (writes_in (take (k + 1) (g r).calls))) (g r).reads)

  tried : (w : Status) → U w → NonTried ≡ w → ⊥
  tried w is same = are.untried (subst U (sym same) is)

  module _ (began : List Status) (was : Option MapState)
      (there : Stands (files_before (b r) (s r).names.map) (s r).end began was) where
    abbrev m : Machine
    m = begins (s r) began was (g r)

    abbrev part : List Entry
    part = take (k + 1) (g r).calls

    made : Made (s r) began was (g r)
    made = goes_made (s r) (files_before (b r)) (g r) began was (on r) (goes r) there

    ran : Ran (s r) began was (g r)
    ran = goes_ran (s r) (files_before (b r)) (g r) began was (on r) (goes r) there

    by_save : (n : ℕ) (p : Snapshot) → slice_get (saves_of (s r) began was (g r)) n ≡ Some p → n < published (take (k + 1) (g r).calls)
        → Has p.map u x → Fails U V are (s r) (ok r) x (begins (s r) began was (g r)).map
        ⊎ Asked U V are (s r) (ok r) x (reads_until (s r).sector (suc (writes_in (take (k + 1) (g r).calls))) (g r).reads)
    by_save n p at low has =
        ⊎_elim
        (λ (c : Cut (front (s r) began was (g r) made) part).
        absurd (let no : ⊥ = omega (
          arith,
          low,
          cut_published (front (s r) began was (g r) made) part c,
          front_still (s r) began was (g r) made,
        ) in no))
        (λ (c : Past (front (s r) began was (g r) made) (calls_of_run (s r) began was (g r)) part).
        subst (λ (rs : List Reading). Fails U V are (s r) (ok r) x m.map ⊎ Asked U V are (s r) (ok r) x rs)
        (ap (λ (w : ℕ). reads_until (s r).sector (suc w) (reads_of (events_in (g r))))
        (sym (past_writes (s r) began was (g r) made part c))
        ∙ ap (λ (rs : List Reading). reads_until (s r).sector (suc (writes_in part)) rs) ran.reads)
        (saves_come U V are (s r) (ok r) x m (events_in (g r)) (last_snapshot (s r) (state_after (s r) m (events_in (g r)))) c.rest n p
        (order_over (s r) began was (began_at (g r).times)) ran.run c.cut at
        (omega (arith, low, past_published (s r) began was (g r) made part c)) u so has))
        (parts (s r) began was (g r) made (k + 1))

    found_by : (number : ℕ) (statuses : List Status) (shows : Option MapState) → number ≤ published (take (k + 1) (g r).calls)
        → Stands (files (s r).names.map) (s r).end statuses shows
        → IsSave (files_before (b r) (s r).names.map) began (s r).line (saves_of (s r) began was (g r)) number
        (files (s r).names.map) statuses → Source
    found_by zero statuses shows few stands save =
        inl (u, so, subst (λ (f : Option File). Marks f u x) save.0 calls)
    found_by (suc n) statuses shows few stands save =
        let has : Has statuses u x
        = has_by u (tried u so) (files (s r).names.map) (s r).end x statuses shows stands calls in
        ⊎_elim
        (λ (f : Fails U V are (s r) (ok r) x m.map).
        let back : Prepared U began x
        = changed_back U (s r).domain (prepared_status (s r).try_again (s r).retrim) 0 began x f.0
        (prepared_back U V are (s r).try_again (s r).retrim) f.1 f.2 in
        inl (back.was, back.so, calls_by back.was (tried back.was back.so) old (s r).end x began was there back.has))
        (λ (f : Asked U V are (s r) (ok r) x by_now). inr f)
        (by_save n save.0 save.1 (omega (arith, few)) (subst (λ (l : List Status). Has l u x) save.2 has))

  pub found_source : Source
  found_source =
      ⊎_elim
      (λ (n : (j : ℕ) → SavesNone (g r).calls j).
      inl (u, so, subst (λ (f : Option File). Marks f u x) ((over r k files le left barrier).mapfile (n k).published) calls))
      (λ (at : StandsAt (files_before (b r) (s r).names.map) (s r).end).
      elim at [
        | At began was there ↦
            let kept = (over r k files le left barrier).kept began was there in
            found_by began was there kept.number kept.statuses kept.shows kept.no_newer kept.stands kept.is_save
      ])
      (none_or_stands (s r) (files_before (b r)) (g r) (on r) (goes r))

-- by the names and the reads of the law
source_of : (U : Status → Type 0) (V : ℕ → Reading → Type 0) → AreFailures U V → (r : Rescue) (k : ℕ)
    (files : List ℕ → Option File) (u : Status) (x : ℕ) (reads : List Reading)
    → AreSeen r reads → k ≤ length r.did.call.calls → LeftBy (run_of r reads).past r.did.call.calls k files
    → has_barrier (take k r.did.call.calls) ≡ true → U u → Marks (files r.mapfile) u x
    → ((was : Status) × U was × Marks (files_before (run_of r reads).past r.mapfile) was x)
    ⊎ ((f : FailedAt (may_have_read (run_of r reads) k) x) × V r.command.options.sector f.read)
source_of U V are r k files u x reads seen le left barrier so calls =
    let sector : ℕ = r.command.options.sector in
    let Of : List Reading → Type 0 = λ rs. (f : FailedOf sector rs x) × V sector f.read in
    let found = found_source U V are r k files u x
    (subst (λ (l : List Entry). k ≤ length l) (calls_are r) le)
    (subst (λ (l : List Entry). LeftBy (b r) l k files) (calls_are r) left)
    (subst (λ (l : List Entry). has_barrier (take k l) ≡ true) (calls_are r) barrier) so
    (subst (λ (m : List ℕ). Marks (files m) u x) (sym (map_is r)) calls) in
    ⊎_elim
    (λ (f : (was : Status) × U was × Marks (files_before (b r) (s r).names.map) was x).
    inl (f.0, f.1, subst (λ (m : List ℕ). Marks (files_before (b r) m) f.0 x) (map_is r) f.2))
    (λ (f : Asked U V are (s r) (ok r) x (reads_until (s r).sector (suc (writes_in (take (k + 1) (g r).calls))) (g r).reads)).
    inr (subst (λ (rs : List Reading). Of (reads_until sector (suc (writes_in (take (k + 1) r.did.call.calls))) rs))
    (sym (seen_alone r reads seen))
    (subst (λ (l : List Entry). Of (reads_until sector (suc (writes_in (take (k + 1) l))) (g r).reads))
    (sym (calls_are r)) f)))
    found

-- ---- bad sectors, and all that failed

abbrev IsBad : Status → Type 0
IsBad u = u ≡ BadSector

bad_again : (w : Status) → IsBad (tried_again w) → IsBad w
bad_again BadSector is = refl
bad_again NonTried is = is
bad_again NonTrimmed is = absurd (cc)
bad_again NonScraped is = absurd (cc)
bad_again Finished is = is

bad_retrimmed : (w : Status) → IsBad (trimmed_again w) → IsBad w
bad_retrimmed BadSector is = refl
bad_retrimmed NonScraped is = absurd (cc)
bad_retrimmed _ is = is

-- a request outside copying is of a sector at most
size_outside : (s : Setting) (m : Machine) (phase : Phase) (mode : TrimMode) → copies phase ≡ false
    → (search_in s m phase mode).size ≡ s.sector
size_outside s m Copying mode is = absurd (cc)
size_outside s m Trimming Lead is = refl
size_outside s m Trimming (Tail low) is = refl
size_outside s m Scraping mode is = refl
size_outside s m Retrying mode is = refl

cut_few : (front : Bool) (sector size start end : ℕ) → 0 < sector
    → (if front then min end (floor sector (start + size)) else end)
    ≤ (if front then start else max start (ceiling sector (end - size))) + size
cut_few true sector size start end some = omega (arith, div-mul-le_self (start + size) sector)
cut_few false sector size start end some = omega (arith, ceiling_above sector (end - size) some)

request_few : (s : Setting) (m : Machine) (p q : ℕ) → 0 < s.sector → is_copying m ≡ false → IsRequest s m p q
    → q ≤ p + s.sector
request_few s m p q some off r =
    let f : Search = search_of s m in
    omega (
      arith,
      r.starts,
      r.ends,
      size_outside s m (pass_of m).phase m.progress.mode off,
      cut_few f.front s.sector f.size r.start r.end some,
    )

abbrev OneSector : ℕ → Reading → Type 0
OneSector sector r = r.asked ≤ kept sector r + sector

bad_leaves : (s : Setting) (m : Machine) (r : Reading) → 0 < s.sector → IsRequest s m r.pos (r.pos + r.asked)
    → IsBad (rest_status s m (r.asked - kept s.sector r)) → OneSector s.sector r
bad_leaves s m r some asks bad =
    ⊎_elim
    (λ (on : is_copying m ≡ true).
    ⊎_elim
    (λ (long : s.sector < r.asked - kept s.sector r).
    let trims : rest_status s m (r.asked - kept s.sector r) ≡ NonTrimmed
    = cond-true (is_copying m && nat_lt s.sector (r.asked - kept s.sector r)) NonTrimmed BadSector
    (and_from (is_copying m) (nat_lt s.sector (r.asked - kept s.sector r)) on
    (lt-ltb s.sector (r.asked - kept s.sector r) long)) in
    let e : NonTrimmed ≡ BadSector = sym trims ∙ bad in absurd (cc))
    (λ (short : r.asked - kept s.sector r ≤ s.sector).
    let le : r.asked ≤ kept s.sector r + s.sector = omega (arith, short) in le)
    (cases_lt s.sector (r.asked - kept s.sector r)))
    (λ (off : is_copying m ≡ false).
    let le : r.asked ≤ kept s.sector r + s.sector
    = omega (arith, request_few s m r.pos (r.pos + r.asked) some off asks) in le)
    (cases_Bool (is_copying m))

bad_fail : AreFailures IsBad OneSector
bad_fail = record {
  untried = λ is. absurd (cc);
  unfinished = λ is. absurd (cc);
  trimmed = λ is. absurd (cc);
  again = bad_again;
  retrimmed = bad_retrimmed;
  leaves = bad_leaves;
}

abbrev HasFailed : Status → Type 0
HasFailed u = has_failed u ≡ true

failed_again : (w : Status) → HasFailed (tried_again w) → HasFailed w
failed_again NonTried is = is
failed_again Finished is = is
failed_again _ is = refl

failed_retrimmed : (w : Status) → HasFailed (trimmed_again w) → HasFailed w
failed_retrimmed NonTried is = is
failed_retrimmed Finished is = is
failed_retrimmed _ is = refl

abbrev Any : ℕ → Reading → Type 0
Any sector r = ⊤

all_fail : AreFailures HasFailed Any
all_fail = record {
  untried = λ is. absurd (cc);
  unfinished = λ is. absurd (cc);
  trimmed = λ is. refl;
  again = failed_again;
  retrimmed = failed_retrimmed;
  leaves = λ s m r some asks is. tt;
}

pub bad_was_asked : BadWasAsked
bad_was_asked r reads k files x seen le left barrier calls =
    let sector : ℕ = r.command.options.sector in
    ⊎_elim
    (λ (f : (was : Status) × (was ≡ BadSector) × Marks (files_before (run_of r reads).past r.mapfile) was x).
    inl (subst (λ (u : Status). Marks (files_before (run_of r reads).past r.mapfile) u x) f.1 f.2))
    (λ (f : (f : FailedAt (may_have_read (run_of r reads) k) x) × (f.read.asked ≤ kept sector f.read + sector)). inr f)
    (source_of IsBad OneSector bad_fail r k files BadSector x reads seen le left barrier refl calls)

pub failed_was_asked : FailedWasAsked
failed_was_asked r reads k files status x seen le left barrier failed calls =
    ⊎_elim
    (λ (f : (was : Status) × (has_failed was ≡ true) × Marks (files_before (run_of r reads).past r.mapfile) was x). inl f)
    (λ (f : (f : FailedAt (may_have_read (run_of r reads) k) x) × Any r.command.options.sector f.read). inr f.0)
    (source_of HasFailed Any all_fail r k files status x reads seen le left barrier failed calls)
