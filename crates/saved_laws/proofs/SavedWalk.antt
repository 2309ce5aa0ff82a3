-- What reads that had begun to be written before a save that returned leave in each map that may be found from then on.
use Rattle.std.proofs.Common.{◌≡◌, ◌⊎◌, inl, inr, ⊎_elim, ℕ, zero, suc, ◌+◌, ◌≤◌, Bool, true, false, not, if◌then◌else◌, nat_eq, List, [], ◌∷◌, ◌++◌, take, map, All, Option, Some, None, refl, sym, ap, ◌∙◌, subst, arith, append_assoc}
use Rattle.std.specs.List.{flat_map, slice_get}
use Rattle.std.proofs.lemmas.List.{map-append}
use Rattle.std.proofs.lemmas.List.Elements.{All-head, All-tail}
use Rattle.block_list.specs.declared.status.Status.{Status}
use Rattle.mapfile_text.specs.declared.state.MapState.{MapState}
use Rattle.faulty_source.specs.Journal.{Reading, kept}
use Rattle.crash_site.specs.Files.{File}
use Rattle.crash_site.specs.Calls.{Call, image_write, image_sync, map_settle, Entry, Done, Failed}
use Rattle.mapfile_save.specs.Saving.{save_calls}
use Rattle.rescue_rules.specs.Setting.{Setting, IsSensible, place}
use Rattle.rescue_rules.specs.Machine.{Machine}
use Rattle.rescue_rules.specs.MachineLaws.{IsInOrder}
use Rattle.rescue_rules.specs.Step.{Event}
use Rattle.rescue_rules.specs.Moves.{move_of, state_after, IsRun}
use Rattle.rescue_rules.specs.Events.{reads_of}
use Rattle.rescue_rules.specs.Deeds.{deed_calls, save_of}
use Rattle.rescue_rules.specs.RunDeeds.{run_deeds}
use Rattle.rescue_rules.specs.RunCalls.{write_calls}
use Rattle.rescue_rules.specs.Snapshots.{Snapshot, text_of, snapshot_of, is_due, last_snapshot, snapshots}
use Rattle.rescue_rules.specs.Stops.{is_write, is_settle}
use Rattle.rescue_rules.specs.StopsBy.{IsSave, saves_of}
use Rattle.rescue_rules.specs.Work.{Gain, begins, events_in}
use Rattle.rescue_rules.proofs.CutLemmas.{Cut, add, cut_all}
use Rattle.rescue_rules.proofs.DeedStages.{last_calls, all_calls}
use Rattle.rescue_rules.proofs.FinishLemmas.{run_steps}
use Rattle.rescue_rules.proofs.MapfileLemmas.{opening_by}
use Rattle.rescue_rules.proofs.MoveLemmas.{run_rest}
use Rattle.rescue_rules.proofs.MoveStages.{due_first}
use Rattle.rescue_rules.proofs.SnapshotLemmas.{one_of}
use Rattle.rescue_safety.proofs.BegunLemmas.{writes_in, Past, cut_split, count_both, count_step, write_counted, save_unwritten}
use Rattle.rescue_safety.proofs.SaveLemmas.{Made, calls_of_run}
use Rattle.rescue_safety.proofs.SettleLemmas.{settled, save_settled}
use Rattle.rescue_safety.proofs.ThenLemmas.{IsDry, dry_count, load as loaded, front, run_calls, all_dry, parts}
use Rattle.rescue_safety.proofs.WrittenLemmas.{save_dry}

-- ---- a call among calls in two parts

-- it is in the first part
record Within (us xs : List Entry) (y : Entry) : Type 0 where
  pub rest : List Entry
  pub is : us ≡ xs ++ y ∷ rest

-- or in the second
record Beyond (us vs xs : List Entry) (y : Entry) (ys : List Entry) : Type 0 where
  pub front : List Entry
  pub before : xs ≡ us ++ front
  pub is : vs ≡ front ++ y ∷ ys

split_point : (us vs xs : List Entry) (y : Entry) (ys : List Entry) → us ++ vs ≡ xs ++ y ∷ ys
    → Within us xs y ⊎ Beyond us vs xs y ys
split_point [] vs xs y ys is = inr (record { front = xs; before = refl; is = is })
split_point (u ∷ us) vs [] y ys is =
    let same : u ≡ y = cc in inl (record { rest = us; is = ap (λ (z : Entry). z ∷ us) same })
split_point (u ∷ us) vs (x ∷ xs) y ys is =
    let same : u ≡ x = cc in
    let tail : us ++ vs ≡ xs ++ y ∷ ys = cc in
    ⊎_elim
    (λ (w : Within us xs y).
    inl (record { rest = w.rest; is = ap (λ (z : Entry). z ∷ us) same ∙ ap (λ (l : List Entry). x ∷ l) w.is }))
    (λ (b : Beyond us vs xs y ys).
    inr (record {
      front = b.front;
      before = ap (λ (z : Entry). z ∷ xs) (sym same) ∙ ap (λ (l : List Entry). u ∷ l) b.before;
      is = b.is;
    }))
    (split_point us vs xs y ys tail)

-- ---- calls before an image sync

never_empty : (es : List Entry) (y : Entry) (ys : List Entry) → es ++ y ∷ ys ≡ [] → ⊥
never_empty [] y ys is = absurd (cc)
never_empty (e ∷ es) y ys is = absurd (cc)

-- what comes before a call that returned, among calls that write nothing
dry_front : (cs : List Call) (es : List Entry) (y : Call) (ys : List Entry) → All IsDry cs
    → Cut cs (es ++ Done y ∷ ys) → writes_in es ≡ 0
dry_front cs [] y ys dry cut = refl
dry_front [] (e ∷ es) y ys dry cut = absurd cut
dry_front (c ∷ cs) (Done z ∷ es) y ys dry cut =
    count_step is_write (Done z) es
    ∙ omega (
      arith,
      dry_front cs es y ys (All-tail IsDry c cs dry) cut.1,
      ap (λ (b : Bool). add b 0) (ap (λ (d : Call). is_write (Done d)) cut.0 ∙ All-head IsDry c cs dry),
      count_step is_write (Done z) es,
    )
dry_front (c ∷ cs) (Failed z steps ∷ es) y ys dry cut = absurd (never_empty es (Done y) ys cut.1)

-- a write is no sync
no_sync : (none : Bool) (pos : ℕ) (piece : List ℕ) (es ys : List Entry)
    → Cut (if none then [] else image_write pos piece ∷ []) (es ++ Done image_sync ∷ ys) → ⊥
no_sync true pos piece [] ys cut = cut
no_sync true pos piece (e ∷ es) ys cut = cut
no_sync false pos piece [] ys cut = let e : image_sync ≡ image_write pos piece = cut.0 in absurd (cc)
no_sync false pos piece (Done z ∷ []) ys cut = cut.1
no_sync false pos piece (Done z ∷ e ∷ es) ys cut = cut.1
no_sync false pos piece (Failed z steps ∷ es) ys cut = never_empty es (Done image_sync) ys cut.1

-- ---- the calls before a run

module _ (s : Setting) (began : List Status) (state : Option MapState) (g : Gain) (made : Made s began state g) where
  pub first_settled : 1 ≤ settled (map Done (front s began state g made))
  first_settled =
      let load : List Call = loaded s began state g made in
      omega (
        arith,
        ap settled (map-append Done made.maps (opening_by s true ++ load)),
        count_both is_settle (map Done made.maps) (map Done (opening_by s true ++ load)),
        ap settled (map-append Done (opening_by s true) load),
        count_both is_settle (map Done (opening_by s true)) (map Done load),
        (let one : settled (map Done (opening_by s true)) ≡ 1 = refl in one),
      )

  front_writes : (rest before : List Entry) → before ≡ map Done (front s began state g made) ++ rest
      → writes_in before ≡ writes_in rest
  front_writes rest before is =
      let first : List Call = front s began state g made in
      let none : writes_in (map Done first) ≡ 0 = dry_count first (all_dry s began state g made) in
      omega (arith, ap writes_in is ∙ count_both is_write (map Done first) rest, none)

-- ---- a run

write_unsettled : (none : Bool) (pos : ℕ) (piece : List ℕ)
    → settled (map Done (if none then [] else image_write pos piece ∷ [])) ≡ 0
write_unsettled true pos piece = refl
write_unsettled false pos piece = refl

-- a read settles as often as the save after it
pub read_settles : (s : Setting) (r : Reading) (save later : List Call)
    → settled (map Done ((write_calls s r ++ save) ++ later)) ≡ settled (map Done save) + settled (map Done later)
read_settles s r save later =
    let write : List Call = write_calls s r in
    omega (
      arith,
      ap settled (map-append Done (write ++ save) later),
      count_both is_settle (map Done (write ++ save)) (map Done later),
      ap settled (map-append Done write save),
      count_both is_settle (map Done write) (map Done save),
      write_unsettled (nat_eq (kept s.sector r) 0) (place s r.pos) (take (kept s.sector r) r.given),
    )

-- `Told w reads` says that something comes of one of these reads, w of which are written. It comes of none if w is 0 or
-- no read is left. If it comes of the first read, each later map is marked so. If not, it comes of a read after that.
module _ (s : Setting) (ok : IsSensible s) (Told : ℕ → List Reading → Type 0) (Marks : List Status → Type 0)
    (never : (rs : List Reading) → Told 0 rs → ⊥) (unread : (w : ℕ) → Told w [] → ⊥)
    (comes : (m : Machine) (e : Event) (es : List Event) → IsInOrder s m → IsRun s m (e ∷ es) → (w : ℕ)
    → Told (add (not (nat_eq (kept s.sector e.reading) 0)) w) (e.reading ∷ reads_of es)
    → All (λ (p : Snapshot). Marks p.map) (snapshots s m (e ∷ es)) ⊎ Told w (reads_of es)) where
  none_told : (n : ℕ) (rs : List Reading) → n ≡ 0 → Told n rs → ⊥
  none_told n rs none t = never rs (subst (λ (k : ℕ). Told k rs) none t)

  module _ (m : Machine) (e : Event) (es : List Event) (last : Snapshot) (order : IsInOrder s m) (run : IsRun s m (e ∷ es))
    where
      abbrev n : Machine
      n = (move_of s m e).after

      abbrev r : Reading
      r = e.reading

      abbrev rs : List Reading
      rs = reads_of es

      abbrev later : List Call
      later = all_calls s (run_deeds s n es) last

      -- what these claim of each later save
      abbrev Later : Type 0
      Later = (part before more : List Entry) (i : ℕ) (p : Snapshot) → Cut later part
          → part ≡ before ++ Done image_sync ∷ more → slice_get (snapshots s n es) i ≡ Some p → settled before ≤ i
          → Told (writes_in before) rs → Marks p.map

      -- past a save
      past_save : Later → (i : ℕ) (p : Snapshot) (part before more : List Entry) → Cut later part
          → part ≡ before ++ Done image_sync ∷ more → slice_get (snapshot_of n ∷ snapshots s n es) i ≡ Some p
          → 1 + settled before ≤ i → Told (writes_in before) rs → Marks p.map
      past_save ih zero p part before more cut is at few t = absurd (let no : ⊥ = omega (arith, few) in no)
      past_save ih (suc i) p part before more cut is at few t = ih part before more i p cut is at (omega (arith, few)) t

      -- it is told of later reads
      after_write : Later → (due : Bool) (part before more : List Entry) (i : ℕ) (p : Snapshot)
          → Cut (save_of s (if due then Some (snapshot_of n) else None) ++ later) part
          → part ≡ before ++ Done image_sync ∷ more
          → slice_get ((if due then snapshot_of n ∷ [] else []) ++ snapshots s n es) i ≡ Some p → settled before ≤ i
          → Told (writes_in before) rs → Marks p.map
      after_write ih false part before more i p cut is at few t = ih part before more i p cut is at few t
      after_write ih true part before more i p cut is at few t =
          let text : List ℕ = text_of s.line (snapshot_of n) in
          let save : List Call = save_calls s.names text in
          let dry : All IsDry save = save_dry s.names text in
          ⊎_elim
          (λ (c : Cut save part).
          absurd (none_told (writes_in before) rs
          (dry_front save before image_sync more dry (subst (λ (l : List Entry). Cut save l) is c)) t))
          (λ (c : Past save later part).
          ⊎_elim
          (λ (w : Within (map Done save) before (Done image_sync)).
          absurd (none_told (writes_in before) rs
          (dry_front save before image_sync w.rest dry (subst (λ (l : List Entry). Cut save l) w.is (cut_all save))) t))
          (λ (w : Beyond (map Done save) c.rest before (Done image_sync) more).
          past_save ih i p c.rest w.front more c.cut w.is at
          (omega (
            arith,
            few,
            ap settled w.before ∙ count_both is_settle (map Done save) w.front,
            save_settled s.names text,
          ))
          (subst (λ (k : ℕ). Told k rs) (ap writes_in w.before ∙ save_unwritten s ok 0 s.names text w.front) t))
          (split_point (map Done save) c.rest before (Done image_sync) more (sym c.is ∙ is)))
          (cut_split save later part cut)

      saved_more : Later → (part before more : List Entry) (i : ℕ) (p : Snapshot)
          → Cut (all_calls s (run_deeds s m (e ∷ es)) last) part → part ≡ before ++ Done image_sync ∷ more
          → slice_get (snapshots s m (e ∷ es)) i ≡ Some p → settled before ≤ i
          → Told (writes_in before) (r ∷ rs) → Marks p.map
      saved_more ih part before more i p cut is at few t =
          let write : List Call = write_calls s r in
          let due : Bool = is_due s (move_of s m e) in
          let save : List Call = save_of s (if due then Some (snapshot_of n) else None) in
          let deeds : List Call = flat_map (deed_calls s) (run_deeds s n es) in
          let here : Cut (write ++ (save ++ later)) part
          = subst (λ (l : List Call). Cut l part)
          (append_assoc (write ++ save) deeds (last_calls s last) ∙ append_assoc write save later) cut in
          let none : Bool = nat_eq (kept s.sector r) 0 in
          let piece : List ℕ = take (kept s.sector r) r.given in
          ⊎_elim
          (λ (c : Cut write part).
          absurd (no_sync none (place s r.pos) piece before more (subst (λ (l : List Entry). Cut write l) is c)))
          (λ (c : Past write (save ++ later) part).
          ⊎_elim
          (λ (w : Within (map Done write) before (Done image_sync)).
          absurd (no_sync none (place s r.pos) piece before w.rest (subst (λ (l : List Entry). Cut write l) w.is (cut_all write))))
          (λ (w : Beyond (map Done write) c.rest before (Done image_sync) more).
          let count : writes_in before ≡ add (not none) (writes_in w.front)
          = ap writes_in w.before ∙ write_counted s ok 0 none (place s r.pos) piece w.front in
          ⊎_elim
          (λ (all : All (λ (q : Snapshot). Marks q.map) (snapshots s m (e ∷ es))).
          one_of (λ (q : Snapshot). Marks q.map) (snapshots s m (e ∷ es)) i p all at)
          (λ (t' : Told (writes_in w.front) rs).
          after_write ih due c.rest w.front more i p c.cut w.is
          (subst (λ (l : List Snapshot). slice_get l i ≡ Some p) (due_first s m e es due refl) at)
          (omega (
            arith,
            few,
            ap settled w.before ∙ count_both is_settle (map Done write) w.front,
            write_unsettled none (place s r.pos) piece,
          )) t')
          (comes m e es order run (writes_in w.front) (subst (λ (k : ℕ). Told k (r ∷ rs)) count t)))
          (split_point (map Done write) c.rest before (Done image_sync) more (sym c.is ∙ is)))
          (cut_split write (save ++ later) part here)

  -- a save that had not returned before marks what is told of the reads that had begun to be written before
  saved_told : (m : Machine) (es : List Event) (last : Snapshot) (part before more : List Entry) (i : ℕ) (p : Snapshot)
      → IsInOrder s m → IsRun s m es → Cut (all_calls s (run_deeds s m es) last) part
      → part ≡ before ++ Done image_sync ∷ more → slice_get (snapshots s m es) i ≡ Some p → settled before ≤ i
      → Told (writes_in before) (reads_of es) → Marks p.map
  saved_told m [] last part before more i p order run cut is at few t = absurd (unread (writes_in before) t)
  saved_told m (e ∷ es) last part before more i p order run cut is at few t =
      saved_more m e es last order run
      (λ rest front tail j q c same there low u. saved_told (move_of s m e).after es last rest front tail j q
      (run_steps s ok m e es order run).order (run_rest s m e es run) c same there low u)
      part before more i p cut is at few t

  -- ---- a rescue's calls

  module _ (began : List Status) (state : Option MapState) (g : Gain) (made : Made s began state g)
      (order : IsInOrder s (begins s began state g)) (run : IsRun s (begins s began state g) (events_in g)) where
    abbrev from : Machine
    from = begins s began state g

    abbrev events : List Event
    events = events_in g

    abbrev first : List Call
    first = front s began state g made

    past : (number : ℕ) (old found : Option File) (statuses : List Status) (part before more : List Entry)
        → IsSave old began s.line (saves_of s began state g) number found statuses → Cut (calls_of_run s began state g) part
        → part ≡ before ++ Done image_sync ∷ more → 1 + settled before ≤ number
        → Told (writes_in before) (reads_of events) → Marks statuses
    past zero old found statuses part before more save cut is few t = absurd (let no : ⊥ = omega (arith, few) in no)
    past (suc i) old found statuses part before more save cut is few t =
        subst Marks (sym save.2)
        (saved_told from events (last_snapshot s (state_after s from events)) part before more i save.0 order run cut is save.1
        (omega (arith, few)) t)

    -- what is told before a sync that a settle follows is marked by each save whose number is as great as the number of
    -- those that have returned
    pub number_told : (k number : ℕ) (old found : Option File) (statuses : List Status)
        (before saving after : List Entry) (name : List ℕ)
        → take k g.calls ≡ before ++ Done image_sync ∷ (saving ++ Done (map_settle name) ∷ after)
        → settled (take k g.calls) ≤ 1 + number
        → IsSave old began s.line (saves_of s began state g) number found statuses
        → Told (writes_in before) (reads_of events) → Marks statuses
    number_told k number old found statuses before saving after name is few save t =
        let more : List Entry = saving ++ Done (map_settle name) ∷ after in
        let part : List Entry = take k g.calls in
        ⊎_elim
        (λ (c : Cut first part).
        absurd (none_told (writes_in before) (reads_of events)
        (dry_front first before image_sync more (all_dry s began state g made) (subst (λ (l : List Entry). Cut first l) is c)) t))
        (λ (c : Past first (run_calls s began state g made) part).
        ⊎_elim
        (λ (w : Within (map Done first) before (Done image_sync)).
        absurd (none_told (writes_in before) (reads_of events)
        (dry_front first before image_sync w.rest (all_dry s began state g made)
        (subst (λ (l : List Entry). Cut first l) w.is (cut_all first))) t))
        (λ (w : Beyond (map Done first) c.rest before (Done image_sync) more).
        past number old found statuses c.rest w.front more save c.cut w.is
        (omega (
          arith,
          few,
          first_settled s began state g made,
          ap settled is ∙ count_both is_settle before (Done image_sync ∷ more),
          count_step is_settle (Done image_sync) more,
          count_both is_settle saving (Done (map_settle name) ∷ after),
          count_step is_settle (Done (map_settle name)) after,
          ap settled w.before ∙ count_both is_settle (map Done first) w.front,
        ))
        (subst (λ (w' : ℕ). Told w' (reads_of events)) (front_writes s began state g made w.front before w.before) t))
        (split_point (map Done first) c.rest before (Done image_sync) more (sym c.is ∙ is)))
        (parts s began state g made k)
