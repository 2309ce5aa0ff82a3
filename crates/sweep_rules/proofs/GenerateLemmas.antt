-- A generating stops safely.
use Rattle.std.proofs.Common.{◌≡◌, ◌⊎◌, inl, inr, ⊎_elim, ℕ, suc, ◌≤◌, Bool, true, false, if◌then◌else◌, List, [], ◌∷◌, ◌++◌, length, take, drop, get_or, Option, Some, None, refl, sym, ◌∙◌, ap, subst, arith}
use Rattle.std.specs.List.{slice_get}
use Rattle.std.proofs.lemmas.List.Elements.{All-head, All-tail}
use Rattle.std.proofs.lemmas.Option.{slice_get-get_or, slice_get_within}
use Rattle.block_list.specs.declared.status.Status.{Status}
use Rattle.block_list.specs.declared.status.Status.TheVariants.{Finished}
use Rattle.block_list.specs.Map.{Has}
use Rattle.crash_site.specs.Files.{File, bytes_of}
use Rattle.rescue_rules.specs.Setting.{Setting, place}
use Rattle.rescue_rules.specs.Snapshots.{Snapshot}
use Rattle.rescue_rules.specs.Deeds.{Deed, Outlasts}
use Rattle.rescue_rules.specs.Stops.{files_before, opened_output}
use Rattle.rescue_rules.proofs.PreparationLemmas.{length_changed}
use Rattle.rescue_rules.proofs.HoldLemmas.{loose_same}
use Rattle.rescue_rules.proofs.BarrierLemmas.{Opens, opened_bytes}
use Rattle.rescue_rules.proofs.KeepLemmas.{SavesOn, KeepsMaps, Promise, Free}
use Rattle.sweep_rules.specs.Sweep.{Sweep, Swept, generator, is_generated, after_piece, after_pieces, is_save_due, sweep_snapshot, deeds_of}
use Rattle.sweep_rules.specs.SweepLaws.{AreGiven}
use Rattle.sweep_rules.specs.SweepStops.{GeneratePromise, sweep_saves, GeneratesSafely}
use Rattle.sweep_rules.proofs.SweepLemmas.{swept_held}
use Rattle.sweep_rules.proofs.EndLemmas.{IsTail, saves_tailed, end_map, first, last_of, tailed, course, sweep_stops_by}

-- over an output that is no shorter than what was read
module _ (s : Setting) (reads old : List ℕ) (long : length reads ≤ length old) (began : List Status) where
  abbrev Generating : ℕ → List Status → List ℕ → Type 0
  Generating n map image = GeneratePromise s old began map image

  -- nothing may be written
  abbrev Nowhere : ℕ → List Status → ℕ → Type 0
  Nowhere n map y = ⊥

  generate_outlasts : (saves : List Snapshot)
      → Outlasts (Promise Generating Nowhere began saves) (Free Generating Nowhere began saves) old
  generate_outlasts saves = record {
    lasts = λ n was now loose m free long h. record {
      held = λ x has. ⊎_elim (λ (b : Has began Finished x). inl b)
          (λ (b : (b : ℕ) × (slice_get was.bytes (place s x) ≡ Some b)).
          inr (b.0, loose_same was loose now (place s x) m (free (place s x)) (slice_get_within was.bytes (place s x) b.0 b.1) ∙ b.1))
          (h.held x has);
      stands = λ y lt.
          let is : slice_get was.bytes y ≡ slice_get old y = h.stands y lt in
          loose_same was loose now y m (free y)
          (slice_get_within was.bytes y (get_or old y 0) (is ∙ slice_get-get_or old y 0 lt)) ∙ is;
    };
  }

  -- what a map calls finished was finished, or has a byte in the output
  abbrev AreHeld : List Status → Type 0
  AreHeld map = (x : ℕ) → Has map Finished x → Has began Finished x ⊎ ((b : ℕ) × (slice_get old (place s x) ≡ Some b))

  promised : (map : List Status) → AreHeld map → GeneratePromise s old began map old
  promised map held = record { held = held; stands = λ y lt. refl }

  held_there : (y : ℕ) → (b : ℕ) × (slice_get reads y ≡ Some b) → (b : ℕ) × (slice_get old y ≡ Some b)
  held_there y b =
      (get_or old y 0, slice_get-get_or old y 0 (omega (arith, long, slice_get_within reads y b.0 b.1)))

  held_piece : (m : Sweep) (e : Swept) → e.got ≡ take e.len (drop (place s e.pos) reads) → AreHeld m.map
      → AreHeld (after_piece (generator s) m e).map
  held_piece m e given held x is =
      ⊎_elim (λ (was : Has m.map Finished x). held x was)
      (λ (b : (b : ℕ) × (slice_get reads (place s x) ≡ Some b)). inr (held_there (place s x) b))
      (swept_held s reads m e x given is)

  generate_due : (due : Bool) (n : ℕ) (map : List Status) (m : Sweep) → AreHeld m.map → (next : ℕ → List Status → Type 0)
      → ((k : ℕ) (t : List Status) → next k t)
      → SavesOn Generating Nowhere n map old (if due then Some (sweep_snapshot m) else None) next
  generate_due true n map m held next go = (promised m.map held, go (suc n) m.map)
  generate_due false n map m held next go = go n map

  generate_tail : (n : ℕ) (map : List Status) (m : Sweep) (tail : List Deed) (last : Snapshot) → AreHeld m.map
      → IsTail s (generator s) m tail → last.map ≡ m.map → KeepsMaps Generating Nowhere n map old tail last
  generate_tail n map m tail last held (inl is) same =
      subst (λ (l : List Deed). KeepsMaps Generating Nowhere n map old l last) (sym is)
      (subst (λ (t : List Status). GeneratePromise s old began t old) (sym same) (promised m.map held))
  generate_tail n map m tail last held (inr h) same =
      subst (λ (l : List Deed). KeepsMaps Generating Nowhere n map old l last) (sym h.3)
      (tt, subst (λ (t : List Status). GeneratePromise s old began t old) (sym same) (promised m.map held))

  generate_keeps : (es : List Swept) (n : ℕ) (map : List Status) (m : Sweep) (tail : List Deed) (last : Snapshot)
      → AreGiven s reads es → AreHeld m.map → IsTail s (generator s) (after_pieces (generator s) m es) tail
      → last.map ≡ (after_pieces (generator s) m es).map
      → KeepsMaps Generating Nowhere n map old (deeds_of (generator s) m es ++ tail) last
  generate_keeps [] n map m tail last given held is_tail same = generate_tail n map m tail last held is_tail same
  generate_keeps (e ∷ es) n map m tail last given held is_tail same =
      let next : Sweep = after_piece (generator s) m e in
      let held' : AreHeld next.map
      = held_piece m e (All-head (λ e. e.got ≡ take e.len (drop (place s e.pos) reads)) e es given) held in (
        tt,
        generate_due (is_save_due m e) n map next held'
            (λ k t. KeepsMaps Generating Nowhere k t old (deeds_of (generator s) next es ++ tail) last)
            (λ k t. generate_keeps es k t next tail last
            (All-tail (λ e. e.got ≡ take e.len (drop (place s e.pos) reads)) e es given) held' is_tail same),
      )

pub generates_safely : GeneratesSafely
generates_safely b s g statuses state file ok on three low times there o given =
    let w = generator s in
    let reads : List ℕ = bytes_of (files_before b s.outfile) in
    let m : Sweep = first b s w g statuses state on o in
    let t = tailed b s w g statuses state on o in
    let last : Snapshot = last_of b s w g statuses state on o in
    sweep_stops_by b s w g statuses state on o
    (λ old began shown n map image. GeneratePromise s old began map image) (λ began shown n map y. ⊥)
    (λ map e. length_changed (is_generated s e) (λ status. Finished) 0 map) three low times
    (subst (λ (f : Option File). Opens false f) (sym there) tt)
    (λ was could.
    let long : length reads ≤ length was.bytes = omega (
      arith,
      could.alike.no_shorter,
      let e : length (opened_output (files_before b s.outfile)).bytes ≡ length reads
          = ap length (opened_bytes (files_before b s.outfile)) in e,
    ) in
    record {
      deeds = deeds_of w m o.sweeps.events ++ t.tail;
      last = last;
      saves_are = saves_tailed s w (after_pieces w m o.sweeps.events) (deeds_of w m o.sweeps.events) t.tail last t.is_tail;
      outlasts = generate_outlasts s reads was.bytes long statuses
          (sweep_saves w statuses state g o.sweeps.events o.end);
      first = promised s reads was.bytes long statuses statuses (λ x is. inl is);
      keeps = generate_keeps s reads was.bytes long statuses o.sweeps.events 0 statuses m t.tail last given
          (λ x is. inl is)
          t.is_tail (end_map _ (after_pieces w m o.sweeps.events));
      course = course b s w g statuses state on o;
    })
