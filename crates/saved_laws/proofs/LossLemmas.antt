-- What is due in the first moves of a run, and which of their calls have returned.
use Rattle.std.proofs.Common.{◌≡◌, ⊎_elim, ℕ, zero, suc, ◌+◌, ◌<◌, ◌≤◌, Bool, true, false, ◌&&◌, if◌then◌else◌, nat_eq, List, [], ◌∷◌, ◌++◌, length, take, drop, map, All, Option, Some, None, is_none, not, refl, sym, ap, ◌∙◌, subst, arith, append_assoc}
use Rattle.std.specs.List.{flat_map}
use Rattle.std.proofs.lemmas.Bool.{cond_both, and_from}
use Rattle.std.proofs.lemmas.List.{map-append}
use Rattle.std.proofs.lemmas.List.Elements.{All-nil}
use Rattle.faulty_source.specs.Journal.{Reading, kept}
use Rattle.crash_site.specs.Calls.{Call, image_open, image_write, Entry, Done, Failed}
use Rattle.rescue_rules.specs.declared.stop.Limit.{Limit}
use Rattle.rescue_rules.specs.Setting.{Setting, IsSensible, place}
use Rattle.rescue_rules.specs.Passes.{Pass}
use Rattle.rescue_rules.specs.Machine.{Machine, has_request}
use Rattle.rescue_rules.specs.Step.{Event, is_timely, limit_met}
use Rattle.rescue_rules.specs.Moves.{begun as begun_pass, at_next, ready, move_of, IsRun}
use Rattle.rescue_rules.specs.Events.{reads_of}
use Rattle.rescue_rules.specs.Deeds.{deed_calls, save_of}
use Rattle.rescue_rules.specs.RunDeeds.{run_deeds}
use Rattle.rescue_rules.specs.RunCalls.{write_calls}
use Rattle.rescue_rules.specs.Snapshots.{Snapshot, text_of, snapshot_of, is_due}
use Rattle.rescue_rules.specs.Stops.{is_write}
use Rattle.rescue_rules.proofs.CutLemmas.{Cut, add}
use Rattle.rescue_rules.proofs.DeedStages.{last_calls, all_calls}
use Rattle.rescue_rules.proofs.MoveLemmas.{run_first, run_rest}
use Rattle.rescue_safety.specs.Safe.{reads_until}
use Rattle.rescue_safety.proofs.BegunLemmas.{writes_in, Past, cut_split, count_step, is_kept, write_counted, save_unwritten}
use Rattle.saved_laws.proofs.SavedWalk.{read_settles}
use Rattle.rescue_safety.proofs.SettleLemmas.{settled, save_settled}
use Rattle.rescue_safety.proofs.ThenLemmas.{IsDry}
use Rattle.saved_laws.proofs.BarrierFirst.{one_counts}
use Rattle.rescue_safety.proofs.DryLemmas.{cut_dry}
use Rattle.rescue_safety.proofs.WrittenLemmas.{save_dry}

-- ---- parts of calls that write nothing

pub failed_alike : (c : Call) (steps : ℕ) → is_write (Failed c steps) ≡ is_write (Done c)
failed_alike (image_open name make) steps = refl
failed_alike _ steps = refl

-- a write and then such calls write once at most
one_cut : (none : Bool) (pos : ℕ) (piece : List ℕ) (cs : List Call) (es : List Entry) → All IsDry cs
    → Cut ((if none then [] else image_write pos piece ∷ []) ++ cs) es → writes_in es ≤ 1
one_cut none pos piece cs [] dry cut = omega (arith, (let no : writes_in [] ≡ 0 = refl in no))
one_cut true pos piece cs (e ∷ es) dry cut = omega (arith, cut_dry cs (e ∷ es) dry cut)
one_cut false pos piece cs (Done z ∷ es) dry cut =
    omega (arith, count_step is_write (Done z) es, cut_dry cs es dry cut.1, one_counts (is_write (Done z)))
one_cut false pos piece cs (Failed z steps ∷ es) dry cut =
    omega (
      arith,
      count_step is_write (Failed z steps) es,
      ap (λ (l : List Entry). writes_in l) cut.1,
      one_counts (is_write (Failed z steps)),
      (let none : writes_in [] ≡ 0 = refl in none),
    )

-- and where nothing was kept they write none
none_cut : (none : Bool) (pos : ℕ) (piece : List ℕ) (cs : List Call) (es : List Entry) → All IsDry cs → none ≡ true
    → Cut ((if none then [] else image_write pos piece ∷ []) ++ cs) es → writes_in es ≡ 0
none_cut true pos piece cs es dry is cut = cut_dry cs es dry cut
none_cut false pos piece cs es dry is cut = absurd (cc)

-- ---- the first of a run's reads

module _ (sector : ℕ) where
  pub until_zero : (rs : List Reading) → length (reads_until sector zero rs) ≡ 0
  until_zero [] = refl
  until_zero (r ∷ rs) = refl

  until_by : (none : Bool) (n : ℕ) (r : Reading) (rs : List Reading) → nat_eq (kept sector r) 0 ≡ none
      → length (reads_until sector (add (not none) n) (r ∷ rs)) ≤ 1 + length (reads_until sector n rs)
  until_by true zero r rs is = omega arith
  until_by true (suc n) r rs is =
      omega (arith, ap (λ (b : Bool). length (reads_until sector (if b then suc n else n) rs)) is)
  until_by false n r rs is =
      omega (arith, ap (λ (b : Bool). length (reads_until sector (if b then suc n else n) rs)) is)

  -- a read more
  until_more : (n : ℕ) (r : Reading) (rs : List Reading)
      → length (reads_until sector (add (is_kept sector 0 r) n) (r ∷ rs)) ≤ 1 + length (reads_until sector n rs)
  until_more n r rs = until_by (nat_eq (kept sector r) 0) n r rs refl

  one_by : (none : Bool) (r : Reading) (rs : List Reading) → nat_eq (kept sector r) 0 ≡ none → (none ≡ true → ⊥)
      → length (reads_until sector 1 (r ∷ rs)) ≤ 1
  one_by true r rs is never = absurd (never refl)
  one_by false r rs is never =
      omega (
        arith,
        ap (λ (b : Bool). length (reads_until sector (if b then 1 else 0) rs)) is,
        until_zero rs,
      )

  -- where no more was written than for this read, no other counts
  until_one : (n : ℕ) (r : Reading) (rs : List Reading) → n ≤ 1 → (nat_eq (kept sector r) 0 ≡ true → n ≡ 0)
      → length (reads_until sector n (r ∷ rs)) ≤ 1
  until_one zero r rs few none = omega (arith, until_zero (r ∷ rs))
  until_one (suc zero) r rs few none = one_by (nat_eq (kept sector r) 0) r rs refl
      (λ is. let no : suc zero ≡ 0 = none is in let e : ⊥ = omega (arith, no) in e)
  until_one (suc (suc n)) r rs few none = absurd (let no : ⊥ = omega (arith, few) in no)

-- ---- limits, and what is due

-- a limit is met by what stands over passes without a request
limit_next : (s : Setting) (m : Machine) (ps : List Pass) → limit_met s (at_next s m ps) ≡ limit_met s m
limit_next s m [] = refl
limit_next s m (p ∷ ps) =
    cond_both (has_request s (begun_pass s m p ps)) (begun_pass s m p ps) (at_next s m ps)
    (λ (n : Machine). limit_met s n ≡ limit_met s m) (λ on. refl) (λ off. limit_next s m ps)

limit_ready : (s : Setting) (m : Machine) → limit_met s (ready s m) ≡ limit_met s m
limit_ready s m =
    cond_both (has_request s m) m (at_next s m (drop 1 m.passes)) (λ (n : Machine). limit_met s n ≡ limit_met s m)
    (λ on. refl) (λ off. limit_next s m (drop 1 m.passes))

module _ (s : Setting) (ok : IsSensible s) (on : s.has_mapfile ≡ true) (x : ℕ) where
  -- the calls of a run's first moves, and how often they settle
  abbrev pub moved : Machine → List Event → List Call
  moved m es = flat_map (deed_calls s) (run_deeds s m es)

  abbrev pub due_settles : Machine → List Event → ℕ
  due_settles m es = settled (map Done (moved m es))

  -- a save that is due or none
  abbrev save_after : Machine → Event → List Call
  save_after m e = save_of s (if is_due s (move_of s m e) then Some (snapshot_of (move_of s m e).after) else None)

  pub settles_more : (m : Machine) (e : Event) (es : List Event)
      → due_settles m (e ∷ es) ≡ settled (map Done (save_after m e)) + due_settles (move_of s m e).after es
  settles_more m e es = read_settles s e.reading (save_after m e) (moved (move_of s m e).after es)

  pub save_settles : (due : Bool) (p : Snapshot) → due ≡ true
      → 1 ≤ settled (map Done (save_of s (if due then Some p else None)))
  save_settles true p is = save_settled s.names (text_of s.line p)
  save_settles false p is = absurd (cc)

  -- a read after which the run went on met no limit
  none_met : (m : Machine) (e f : Event) (es : List Event) → IsRun s m (e ∷ f ∷ es) → limit_met s (move_of s m e).after ≡ None
  none_met m e f es run =
      let n : Machine = (move_of s m e).after in
      sym (limit_ready s n) ∙ (run_first s n f es (run_rest s m e (f ∷ es) run)).within

  -- so its save is due, if it comes late enough
  timely_due : (m : Machine) (e f : Event) (es : List Event) → IsRun s m (e ∷ f ∷ es) → is_timely (ready s m) e ≡ true
      → is_due s (move_of s m e) ≡ true
  timely_due m e f es run timely =
      and_from (s.has_mapfile && is_timely (ready s m) e) (is_none (limit_met s (move_of s m e).after))
      (and_from s.has_mapfile (is_timely (ready s m) e) on timely)
      (ap (λ (o : Option Limit). is_none o) (none_met m e f es run))

  pub due_before : (m : Machine) (e : Event) (mid : List Event) (late : Event) (rest : List Event)
      → IsRun s m (e ∷ (mid ++ late ∷ rest)) → is_timely (ready s m) e ≡ true → is_due s (move_of s m e) ≡ true
  due_before m e [] late rest run timely = timely_due m e late rest run timely
  due_before m e (f ∷ mid) late rest run timely = timely_due m e f (mid ++ late ∷ rest) run timely

  -- ---- by the calls

  -- the calls of these moves had returned, and one more had begun
  pub record Returned (m : Machine) (es : List Event) (part : List Entry) : Type 0 where
    pub next : Entry
    pub rest : List Entry
    pub is : part ≡ map Done (moved m es) ++ next ∷ rest

  some_entry : (part : List Entry) (rs : List Reading) → 0 < length (reads_until s.sector (writes_in part) rs)
      → (next : Entry) × (rest : List Entry) × (part ≡ next ∷ rest)
  some_entry [] rs few = absurd (let no : ⊥ = omega (arith, few, until_zero s.sector rs) in no)
  some_entry (e ∷ es) rs few = (e, es, refl)

  save_after_dry : (due : Bool) (p : Snapshot) → All IsDry (save_of s (if due then Some p else None))
  save_after_dry true p = save_dry s.names (text_of s.line p)
  save_after_dry false p = All-nil IsDry

  save_after_counted : (due : Bool) (p : Snapshot) (es : List Entry)
      → writes_in (map Done (save_of s (if due then Some p else None)) ++ es) ≡ writes_in es
  save_after_counted true p es = save_unwritten s ok x s.names (text_of s.line p) es
  save_after_counted false p es = refl

  pub moves_returned : (m : Machine) (es back : List Event) (last : Snapshot) (part : List Entry)
      → Cut (all_calls s (run_deeds s m (es ++ back)) last) part
      → length es < length (reads_until s.sector (writes_in part) (reads_of (es ++ back))) → Returned m es part
  moves_returned m [] back last part cut few =
      let one = some_entry part (reads_of back) few in record { next = one.0; rest = one.1; is = one.2 }
  moves_returned m (e ∷ es) back last part cut few =
      let n : Machine = (move_of s m e).after in
      let r : Reading = e.reading in
      let rs : List Reading = reads_of (es ++ back) in
      let write : List Call = write_calls s r in
      let save : List Call = save_after m e in
      let deeds : List Call = flat_map (deed_calls s) (run_deeds s n (es ++ back)) in
      let later : List Call = all_calls s (run_deeds s n (es ++ back)) last in
      let none : Bool = nat_eq (kept s.sector r) 0 in
      let piece : List ℕ = take (kept s.sector r) r.given in
      let dry : All IsDry save = save_after_dry (is_due s (move_of s m e)) (snapshot_of n) in
      let here : Cut ((write ++ save) ++ later) part
      = subst (λ (l : List Call). Cut l part) (append_assoc (write ++ save) deeds (last_calls s last)) cut in
      ⊎_elim
      (λ (c : Cut (write ++ save) part).
      absurd (let no : ⊥ = omega (
        arith,
        few,
        until_one s.sector (writes_in part) r rs (one_cut none (place s r.pos) piece save part dry c)
            (λ is. none_cut none (place s r.pos) piece save part dry is c),
      ) in no))
      (λ (c : Past (write ++ save) later part).
      let split : part ≡ map Done write ++ (map Done save ++ c.rest)
      = c.is ∙ ap (λ (l : List Entry). l ++ c.rest) (map-append Done write save)
      ∙ append_assoc (map Done write) (map Done save) c.rest in
      let count : writes_in part ≡ add (is_kept s.sector 0 r) (writes_in c.rest)
      = ap writes_in split
      ∙ write_counted s ok 0 none (place s r.pos) piece (map Done save ++ c.rest)
      ∙ ap (λ (k : ℕ). add (is_kept s.sector 0 r) k)
      (save_after_counted (is_due s (move_of s m e)) (snapshot_of n) c.rest) in
      let more : Returned n es c.rest
      = moves_returned n es back last c.rest c.cut
      (omega (
        arith,
        few,
        ap (λ (k : ℕ). length (reads_until s.sector k (r ∷ rs))) count,
        until_more s.sector (writes_in c.rest) r rs,
      )) in
      record {
        next = more.next;
        rest = more.rest;
        is = c.is ∙ ap (λ (l : List Entry). map Done (write ++ save) ++ l) more.is
            ∙ sym (append_assoc (map Done (write ++ save)) (map Done (moved n es)) (more.next ∷ more.rest))
            ∙ ap (λ (l : List Entry). l ++ more.next ∷ more.rest) (sym (map-append Done (write ++ save) (moved n es)));
      })
      (cut_split (write ++ save) later part here)
