-- A rescue's run as one that saves while it goes.
use Rattle.std.proofs.Common.{◌≡◌, ℕ, suc, ◌+◌, ◌-◌, ◌≤◌, ◌<◌, Bool, true, false, nat_eq, List, [], ◌∷◌, ◌++◌, length, map, filter, take, if◌then◌else◌, Some, None, refl, sym, ◌∙◌, ap, subst, arith, append_assoc}
use Rattle.std.specs.List.{flat_map, slice_get}
use Rattle.std.proofs.lemmas.List.{length-take-le}
use Rattle.block_list.specs.declared.status.Status.{Status}
use Rattle.block_list.specs.declared.status.Status.TheVariants.{Finished}
use Rattle.block_list.specs.Map.{Has}
use Rattle.faulty_source.specs.Journal.{Reading, kept}
use Rattle.crash_site.specs.Files.{written}
use Rattle.crash_site.specs.Calls.{Call, image_write}
use Rattle.mapfile_save.specs.Saving.{save_calls}
use Rattle.rescue_rules.specs.Setting.{Setting, IsSensible, place}
use Rattle.rescue_rules.specs.Machine.{Machine, is_wanted}
use Rattle.rescue_rules.specs.Step.{Event}
use Rattle.rescue_rules.specs.Moves.{Move, ready, move_of, moves, state_after, has_ended, IsRun}
use Rattle.rescue_rules.specs.Events.{reads_of}
use Rattle.rescue_rules.specs.Snapshots.{Snapshot, text_of, snapshot_of, finished_snapshot, is_due, last_snapshot}
use Rattle.rescue_rules.specs.RunCalls.{write_calls, output_by, move_calls, closing_calls}
use Rattle.rescue_rules.specs.Held.{Held}
use Rattle.rescue_rules.specs.MachineLaws.{IsInOrder, StepsBy}
use Rattle.rescue_rules.specs.Preparation.{AreFinishedAlike}
use Rattle.rescue_rules.specs.Deeds.{Deed, save_of, deed_calls, some_save, image_after, WritesAt, Outlasts}
use Rattle.rescue_rules.specs.RunDeeds.{move_deed, run_deeds, RunIsDeeds}
use Rattle.rescue_rules.proofs.MoveLemmas.{run_rest}
use Rattle.rescue_rules.proofs.StepLemmas.{finished_unwanted, wanted_domain}
use Rattle.rescue_rules.proofs.ReadyLemmas.{stays_ready}
use Rattle.rescue_rules.proofs.FinishLemmas.{run_steps, finished_stands}
use Rattle.rescue_rules.proofs.HoldLemmas.{Unfinished, held_by_event, held_more, held_loose, held_at_first, length-output_by}
use Rattle.rescue_rules.proofs.KeepLemmas.{saved_map, SavesOn, KeepsMaps, Promise, Free}

-- its deeds make the same calls, and the same saves
save_asked : (s : Setting) (due : Bool) (p : Snapshot)
    → save_of s (if due then Some p else None) ≡ (if due then save_calls s.names (text_of s.line p) else [])
save_asked s true p = refl
save_asked s false p = refl

move_alike : (s : Setting) (v : Move) → deed_calls s (move_deed s v) ≡ move_calls s v
move_alike s v =
    ap (λ (c : List Call). write_calls s v.event.reading ++ c) (save_asked s (is_due s v) (snapshot_of v.after))

pub calls_alike : (s : Setting) (vs : List Move)
    → flat_map (deed_calls s) (map (move_deed s) vs) ≡ flat_map (move_calls s) vs
calls_alike s [] = refl
calls_alike s (v ∷ vs) =
    ap (λ (c : List Call). c ++ flat_map (deed_calls s) (map (move_deed s) vs)) (move_alike s v)
    ∙ ap (λ (c : List Call). move_calls s v ++ c) (calls_alike s vs)

kept_or_not : (due : Bool) (v : Move) (rest : List Snapshot) (moves : List Move) (p : Move → Bool) → p v ≡ due
    → rest ≡ map (λ (w : Move). snapshot_of w.after) (filter p moves)
    → (some_save (if due then Some (snapshot_of v.after) else None) ++ rest)
    ≡ map (λ (w : Move). snapshot_of w.after) (filter p (v ∷ moves))
kept_or_not true v rest moves p is same =
    ap (λ (l : List Snapshot). snapshot_of v.after ∷ l) same
    ∙ sym (ap (λ (b : Bool). map (λ (w : Move). snapshot_of w.after) (if b then v ∷ filter p moves else filter p moves)) is)
kept_or_not false v rest moves p is same =
    same ∙ sym (ap (λ (b : Bool). map (λ (w : Move). snapshot_of w.after) (if b then v ∷ filter p moves else filter p moves)) is)

saves_alike : (s : Setting) (vs : List Move)
    → flat_map (λ (d : Deed). some_save d.save) (map (move_deed s) vs)
    ≡ map (λ (v : Move). snapshot_of v.after) (filter (is_due s) vs)
saves_alike s [] = refl
saves_alike s (v ∷ vs) = kept_or_not (is_due s v) v _ vs (is_due s) refl (saves_alike s vs)

pub run_is_deeds : RunIsDeeds
run_is_deeds s m events = record {
  calls = ap (λ (c : List Call). c ++ closing_calls s (last_snapshot s (state_after s m events)))
      (calls_alike s (moves s m events));
  saves = ap (λ (l : List Snapshot). l ++ last_snapshot s (state_after s m events) ∷ []) (saves_alike s (moves s m events));
}

either_map : (over : Bool) (m : Machine) → (if over then finished_snapshot m else snapshot_of m).map ≡ m.map
either_map true m = refl
either_map false m = refl

pub last_map : (s : Setting) (m : Machine) → (last_snapshot s m).map ≡ m.map
last_map s m = either_map (has_ended s m) m

-- what a write that may be none makes of an output, and where it writes
image_by : (none : Bool) (now : List ℕ) (pos : ℕ) (piece : List ℕ)
    → image_after now (if none then [] else image_write pos piece ∷ []) ≡ (if none then now else written now pos piece)
image_by true now pos piece = refl
image_by false now pos piece = refl

writes_by : (none : Bool) (free : ℕ → Type 0) (pos : ℕ) (piece : List ℕ)
    → ((y : ℕ) → pos ≤ y → y < pos + length piece → free y)
    → WritesAt free (if none then [] else image_write pos piece ∷ [])
writes_by true free pos piece may = tt
writes_by false free pos piece may = (may, tt)

module _ (s : Setting) (ok : IsSensible s) (reads : List Reading) (old : List ℕ) where
  -- what its mapfile promises, and where may be written meanwhile
  abbrev pub Holding : ℕ → List Status → List ℕ → Type 0
  Holding n map image = Held s reads old map image

  abbrev pub Writable : ℕ → List Status → ℕ → Type 0
  Writable n map y = Unfinished s map y

  pub run_outlasts : (began : List Status) (saves : List Snapshot)
      → Outlasts (Promise Holding Writable began saves) (Free Holding Writable began saves) old
  run_outlasts began saves = record {
    lasts = λ n was now loose m owned longer h.
        (held_loose s ok reads old (saved_map began saves n) was loose now m owned longer h).0;
  }

  -- a run that has come to a state, over a mapfile's map: the reads so far, and the output as it reads
  record Comes (map : List Status) (m : Machine) (es : List Event) (now : List ℕ) : Type 0 where
    front : List Reading
    all : reads ≡ front ++ reads_of es
    order : IsInOrder s m
    run : IsRun s m es
    held : Held s front old m.map now
    longer : length old ≤ length now
    fewer : (x : ℕ) → Has map Finished x → Has m.map Finished x

  -- what holds by the reads so far goes on to hold by all
  held_all : (map : List Status) (m : Machine) (es : List Event) (now : List ℕ) → Comes map m es now
      → Held s reads old m.map now
  held_all map m es now g =
      subst (λ (r : List Reading). Held s r old m.map now) (sym g.all)
      (held_more s g.front (reads_of es) old m.map now
      (λ x inside is. (finished_stands s m es x ok g.order g.run is).0) g.held)

  -- an event writes places of positions that the mapfile doesn't call finished
  event_may : (map : List Status) (m : Machine) (e : Event) (es : List Event) (now : List ℕ) → Comes map m (e ∷ es) now
      → (y : ℕ) → place s e.reading.pos ≤ y
      → y < place s e.reading.pos + length (take (kept s.sector e.reading) e.reading.given)
      → Unfinished s map y
  event_may map m e es now g y from to =
      let r : Reading = e.reading in
      let b : StepsBy s (ready s m) e = run_steps s ok m e es g.order g.run in
      let size : length (take (kept s.sector r) r.given) ≡ kept s.sector r
      = length-take-le (kept s.sector r) r.given b.kept_given in
      let x : ℕ = r.pos + (y - place s r.pos) in
      let first : s.input_position ≤ r.pos
      = ok.from r.pos (wanted_domain s (ready s m) r.pos (b.wanted r.pos (omega arith) (omega (arith, b.some)))) in
      let wanted : is_wanted s (ready s m) x ≡ true
      = b.wanted x (omega arith) (omega (arith, to, from, size, b.kept_asked)) in
      record {
        x = x;
        inside = wanted_domain s (ready s m) x wanted;
        unfinished = λ is. finished_unwanted s (ready s m) x
            (ap (λ (map : List Status). slice_get map x) (stays_ready s m).map ∙ g.fewer x is) wanted;
        at = omega (arith, first, from);
      }

  -- what comes of an event, and of a save after it
  comes : (map : List Status) (m : Machine) (e : Event) (es : List Event) (now : List ℕ) → Comes map m (e ∷ es) now
      → Comes map (move_of s m e).after es (output_by s now e.reading)
  comes map m e es now g =
      let b : StepsBy s (ready s m) e = run_steps s ok m e es g.order g.run in
      record {
        front = g.front ++ e.reading ∷ [];
        all = g.all ∙ sym (append_assoc g.front (e.reading ∷ []) (reads_of es));
        order = b.order;
        run = run_rest s m e es g.run;
        held = held_by_event s ok m e es g.front old now g.order g.run g.longer g.held;
        longer = omega (arith, g.longer, length-output_by s now e.reading);
        fewer = λ x is. b.stays x (ap (λ (map : List Status). slice_get map x) (stays_ready s m).map ∙ g.fewer x is);
      }

  saved : (map : List Status) (m : Machine) (es : List Event) (now : List ℕ) → Comes map m es now
      → Comes m.map m es now
  saved map m es now g = record {
    front = g.front;
    all = g.all;
    order = g.order;
    run = g.run;
    held = g.held;
    longer = g.longer;
    fewer = λ x is. is;
  }

  run_due : (due : Bool) (n : ℕ) (map : List Status) (m : Machine) (es : List Event) (now : List ℕ) → Comes map m es now
      → (next : ℕ → List Status → Type 0)
      → ((k : ℕ) (t : List Status) → Comes t m es now → next k t)
      → SavesOn Holding Writable n map now (if due then Some (snapshot_of m) else None) next
  run_due true n map m es now g next go = (held_all map m es now g, go (suc n) m.map (saved map m es now g))
  run_due false n map m es now g next go = go n map g

  -- a run keeps up
  run_keeps : (es : List Event) (n : ℕ) (map : List Status) (m : Machine) (now : List ℕ) → Comes map m es now
      → KeepsMaps Holding Writable n map now (run_deeds s m es) (last_snapshot s (state_after s m es))
  run_keeps [] n map m now g =
      subst (λ (t : List Status). Held s reads old t now) (sym (last_map s m)) (held_all map m [] now g)
  run_keeps (e ∷ es) n map m now g =
      let r : Reading = e.reading in
      let none : Bool = nat_eq (kept s.sector r) 0 in
      let piece : List ℕ = take (kept s.sector r) r.given in
      let v : Move = move_of s m e in
      let last : Snapshot = last_snapshot s (state_after s v.after es) in
      let c : Comes map v.after es (output_by s now r) = comes map m e es now g in
      let image : image_after now (write_calls s r) ≡ output_by s now r = image_by none now (place s r.pos) piece in (
        writes_by none (Unfinished s map) (place s r.pos) piece (event_may map m e es now g),
        subst (λ (i : List ℕ). SavesOn Holding Writable n map i (if is_due s v then Some (snapshot_of v.after) else None)
            (λ k t. KeepsMaps Holding Writable k t i (run_deeds s v.after es) last)) (sym image)
            (run_due (is_due s v) n map v.after es (output_by s now r) c
            (λ k t. KeepsMaps Holding Writable k t (output_by s now r) (run_deeds s v.after es) last)
            (λ k t c'. run_keeps es k t v.after (output_by s now r) c')),
      )

  -- as it begins over a mapfile whose map finishes the same
  pub run_first : (began : List Status) (m : Machine) (es : List Event) → reads ≡ reads_of es → IsInOrder s m
      → AreFinishedAlike began m.map → IsRun s m es → Held s reads old began old
  run_first began m es all order alike run =
      subst (λ (r : List Reading). Held s r old began old) (sym all)
      (held_more s [] (reads_of es) old began old
      (λ x inside is. (finished_stands s m es x ok order run ((alike.each x).0 is)).0) (held_at_first s began old))

  pub run_keeps_up : (began : List Status) (m : Machine) (es : List Event) → reads ≡ reads_of es → IsInOrder s m
      → AreFinishedAlike began m.map → IsRun s m es
      → KeepsMaps Holding Writable 0 began old (run_deeds s m es) (last_snapshot s (state_after s m es))
  run_keeps_up began m es all order alike run = run_keeps es 0 began m old (record {
    front = [];
    all = all;
    order = order;
    run = run;
    held = held_at_first s m.map old;
    longer = omega arith;
    fewer = λ x is. (alike.each x).0 is;
  })
