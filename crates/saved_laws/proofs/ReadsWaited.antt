-- When a call fails, a rescue has read no further.
use Rattle.std.proofs.Common.{◌≡◌, ◌⊎◌, inl, inr, ⊎_elim, ℕ, zero, suc, ◌+◌, ◌≤◌, Bool, true, false, not, if◌then◌else◌, nat_eq, List, [], ◌∷◌, ◌++◌, length, take, drop, map, All, Option, refl, sym, ap, ◌∙◌, subst, arith, append_assoc, append-nil, length-append}
use Rattle.std.proofs.Math.Seq.{take-length}
use Rattle.std.proofs.lemmas.Bool.{eqb-true}
use Rattle.std.proofs.lemmas.List.{length-drop, map-append}
use Rattle.std.proofs.lemmas.List.Elements.{All-nil, All-cons, All-head, All-tail}
use Rattle.faulty_source.specs.Journal.{Reading, kept}
use Rattle.crash_site.specs.declared.site.SiteCall.{SiteCall}
use Rattle.crash_site.specs.declared.site.SiteCall.TheVariants.{MapRead}
use Rattle.crash_site.specs.Files.{File}
use Rattle.crash_site.specs.Calls.{Call, Entry, Done, Failed, image_write, image_sync}
use Rattle.crash_site.specs.CallsMade.{BrokeAt}
use Rattle.mapfile_save.specs.Saving.{save_calls}
use Rattle.rescue_rules.specs.declared.stop.RunEnd.{RunEnd}
use Rattle.rescue_rules.specs.Setting.{Setting, place}
use Rattle.rescue_rules.specs.Machine.{Machine}
use Rattle.rescue_rules.specs.Step.{Event}
use Rattle.rescue_rules.specs.Moves.{move_of, state_after}
use Rattle.rescue_rules.specs.Events.{reads_of}
use Rattle.rescue_rules.specs.RunCalls.{write_calls, due_calls, move_calls, run_calls, end_calls}
use Rattle.rescue_rules.specs.Snapshots.{text_of, snapshot_of, is_due, last_snapshot}
use Rattle.rescue_rules.specs.Stops.{files_before, is_write}
use Rattle.rescue_rules.specs.Work.{Gain, begins, events_in, opening_calls, Ends, IsSaved, IsUnsaved, IsBroken, GoesOn, InOpening, InLoad, InRun, Goes, InMaps, AfterMaps}
use Rattle.rescue_rules.proofs.CutLemmas.{add}
use Rattle.rescue_rules.proofs.GoesLemmas.{timed}
use Rattle.rescue_safety.specs.Safe.{reads_until}
use Rattle.rescue_safety.proofs.BegunLemmas.{writes_in, count_both, count_step, is_kept}
use Rattle.rescue_safety.proofs.SafeLemmas.{s, g, b, goes, calls_are, seen_alone}
use Rattle.rescue_safety.proofs.ThenLemmas.{IsDry, dry_count}
use Rattle.saved_laws.specs.Laws.{ReadsWait}
use Rattle.saved_laws.proofs.LossLemmas.{failed_alike}
use Rattle.rescue_safety.proofs.WrittenLemmas.{save_dry}

-- ---- reads of which something is kept

add_more : (b : Bool) (n : ℕ) → add b n ≡ add b 0 + n
add_more true n = omega arith
add_more false n = omega arith

module _ (sector : ℕ) where
  abbrev Nothing : Reading → Type 0
  Nothing r = kept sector r ≡ 0

  abbrev keepers : List Reading → ℕ
  keepers [] = 0
  keepers (r ∷ rs) = add (is_kept sector 0 r) (keepers rs)

  keepers_both : (rs qs : List Reading) → keepers (rs ++ qs) ≡ keepers rs + keepers qs
  keepers_both [] qs = omega arith
  keepers_both (r ∷ rs) qs =
      omega (
        arith,
        add_more (is_kept sector 0 r) (keepers (rs ++ qs)),
        add_more (is_kept sector 0 r) (keepers rs),
        keepers_both rs qs,
      )

  -- reads after as many that were kept keep nothing
  record Split (n : ℕ) (rs : List Reading) : Type 0 where
    rest : List Reading
    is : rs ≡ reads_until sector n rs ++ rest
    none : All (λ (r : Reading). kept sector r ≡ 0) rest

  head_none : (none : Bool) (r : Reading) (k : ℕ) → nat_eq (kept sector r) 0 ≡ none → add (not (nat_eq (kept sector r) 0)) k ≤ 0
      → kept sector r ≡ 0
  head_none true r k is few = eqb-true (kept sector r) 0 is
  head_none false r k is few =
      absurd (let no : ⊥ = omega (arith, few, ap (λ (b : Bool). add (not b) k) is) in no)

  none_kept : (rs : List Reading) → keepers rs ≤ 0 → All (λ (r : Reading). kept sector r ≡ 0) rs
  none_kept [] few = All-nil Nothing
  none_kept (r ∷ rs) few =
      All-cons Nothing r rs (head_none (nat_eq (kept sector r) 0) r (keepers rs) refl few)
      (none_kept rs (omega (arith, few, add_more (is_kept sector 0 r) (keepers rs))))

  less_by : (none : Bool) (r : Reading) (k n : ℕ) → nat_eq (kept sector r) 0 ≡ none
      → add (not (nat_eq (kept sector r) 0)) k ≤ suc n → k ≤ (if nat_eq (kept sector r) 0 then suc n else n)
  less_by true r k n is few =
      omega (
        arith,
        few,
        ap (λ (b : Bool). add (not b) k) is,
        ap (λ (b : Bool). if b then suc n else n) is,
      )
  less_by false r k n is few =
      omega (
        arith,
        few,
        ap (λ (b : Bool). add (not b) k) is,
        ap (λ (b : Bool). if b then suc n else n) is,
      )

  split_until : (rs : List Reading) (n : ℕ) → keepers rs ≤ n → Split n rs
  split_until [] n few = record { rest = []; is = refl; none = All-nil Nothing }
  split_until (r ∷ rs) zero few = record { rest = r ∷ rs; is = refl; none = none_kept (r ∷ rs) few }
  split_until (r ∷ rs) (suc n) few =
      let m : ℕ = if nat_eq (kept sector r) 0 then suc n else n in
      let more : Split m rs = split_until rs m (less_by (nat_eq (kept sector r) 0) r (keepers rs) n refl few) in
      record { rest = more.rest; is = ap (λ (l : List Reading). r ∷ l) more.is; none = more.none }

  -- ---- of the last read something is kept, if there is one

  abbrev KeptLast : List Reading → Type 0
  KeptLast rs = (front rest : List Reading) → rs ≡ front ++ rest → All (λ (r : Reading). kept sector r ≡ 0) rest → rest ≡ []

  no_rest : (front rest : List Reading) → [] ≡ front ++ rest → rest ≡ []
  no_rest [] rest is = sym is
  no_rest (f ∷ front) rest is = absurd (cc)

  no_reads : (rs : List Reading) → rs ≡ [] → KeptLast rs
  no_reads rs unread front rest is none = no_rest front rest (sym unread ∙ is)

  never_empty : (rs qs : List Reading) (r : Reading) → [] ≡ rs ++ r ∷ qs → ⊥
  never_empty [] qs r is = absurd (cc)
  never_empty (q ∷ rs) qs r is = absurd (cc)

  last_of : (rs : List Reading) (r : Reading) → All (λ (q : Reading). kept sector q ≡ 0) (rs ++ r ∷ []) → kept sector r ≡ 0
  last_of [] r all = All-head Nothing r [] all
  last_of (q ∷ rs) r all = last_of rs r (All-tail Nothing q (rs ++ r ∷ []) all)

  last_none : (rs : List Reading) (r : Reading) (front : List Reading) (q : Reading) (qs : List Reading)
      → rs ++ r ∷ [] ≡ front ++ q ∷ qs → All (λ (p : Reading). kept sector p ≡ 0) (q ∷ qs) → kept sector r ≡ 0
  last_none rs r [] q qs is none =
      last_of rs r (subst (λ (l : List Reading). All Nothing l) (sym is) none)
  last_none [] r (f ∷ front) q qs is none =
      let no : [] ≡ front ++ q ∷ qs = cc in absurd (never_empty front qs q no)
  last_none (p ∷ rs) r (f ∷ front) q qs is none =
      let tail : rs ++ r ∷ [] ≡ front ++ q ∷ qs = cc in last_none rs r front q qs tail none

  kept_last : (rs : List Reading) (r : Reading) → nat_eq (kept sector r) 0 ≡ false → KeptLast (rs ++ r ∷ [])
  kept_last rs r off front [] is none = refl
  kept_last rs r off front (q ∷ qs) is none =
      let no : true ≡ false = sym (ap (λ (k : ℕ). nat_eq k 0) (last_none rs r front q qs is none)) ∙ off in absurd (cc)

  -- ---- how calls end

  -- All calls returned, or the last one failed. Then each read of which something was kept has its write; and if that
  -- call is a write, no read came after it.
  data Ended (calls : List Entry) (reads : List Reading) : Type 0 where
    AllDone : (xs : List Call) → calls ≡ map Done xs → Ended calls reads
    FailsAt : (xs : List Call) (z : Call) (steps : ℕ) → calls ≡ map Done xs ++ Failed z steps ∷ []
        → keepers reads ≤ writes_in calls → (is_write (Failed z steps) ≡ true → KeptLast reads) → Ended calls reads

  -- so with calls before them
  ended_after : (ys : List Call) (calls all : List Entry) (reads : List Reading) → all ≡ map Done ys ++ calls
      → Ended calls reads → Ended all reads
  ended_after ys calls all reads is (AllDone xs same) =
      AllDone (ys ++ xs) (is ∙ ap (λ (l : List Entry). map Done ys ++ l) same ∙ sym (map-append Done ys xs))
  ended_after ys calls all reads is (FailsAt xs z steps same few last) =
      FailsAt (ys ++ xs) z steps
      (is ∙ ap (λ (l : List Entry). map Done ys ++ l) same
      ∙ sym (append_assoc (map Done ys) (map Done xs) (Failed z steps ∷ []))
      ∙ ap (λ (l : List Entry). l ++ Failed z steps ∷ []) (sym (map-append Done ys xs)))
      (omega (arith, few, ap writes_in is ∙ count_both is_write (map Done ys) calls)) last

-- calls that broke at one of these, after others that returned
record Broken (calls xs : List Call) (new : List Entry) : Type 0 where
  front : List Call
  z : Call
  back : List Call
  is : calls ≡ front ++ z ∷ back
  how : (new ≡ map Done (xs ++ front)) ⊎ ((steps : ℕ) × (new ≡ map Done (xs ++ front) ++ Failed z steps ∷ []))

broken : (at : SiteCall) (calls xs : List Call) (new : List Entry) → BrokeAt at calls (map Done xs) new → Broken calls xs new
broken at [] xs new broke = absurd broke
broken at (c ∷ cs) xs new (inl (is, lost)) = record {
  front = [];
  z = c;
  back = cs;
  is = refl;
  how = ⊎_elim
      (λ (l : (steps : ℕ) × (new ≡ map Done xs ++ Failed c steps ∷ [])).
      inr (l.0, l.1 ∙ ap (λ (l' : List Call). map Done l' ++ Failed c l.0 ∷ []) (sym (append-nil xs))))
      (λ (same : new ≡ map Done xs). inl (same ∙ ap (λ (l : List Call). map Done l) (sym (append-nil xs)))) lost;
}
broken at (c ∷ cs) xs new (inr more) =
    let rest : Broken cs (xs ++ c ∷ []) new
    = broken at cs (xs ++ c ∷ []) new
    (subst (λ (l : List Entry). BrokeAt at cs l new) (sym (map-append Done xs (c ∷ []))) more) in
    let assoc : (xs ++ c ∷ []) ++ rest.front ≡ xs ++ c ∷ rest.front = append_assoc xs (c ∷ []) rest.front in
    record {
      front = c ∷ rest.front;
      z = rest.z;
      back = rest.back;
      is = ap (λ (l : List Call). c ∷ l) rest.is;
      how = ⊎_elim
          (λ (same : new ≡ map Done ((xs ++ c ∷ []) ++ rest.front)).
          inl (same ∙ ap (λ (l : List Call). map Done l) assoc))
          (λ (l : (steps : ℕ) × (new ≡ map Done ((xs ++ c ∷ []) ++ rest.front) ++ Failed rest.z steps ∷ [])).
          inr (l.0, l.1 ∙ ap (λ (l' : List Call). map Done l' ++ Failed rest.z l.0 ∷ []) assoc)) rest.how;
    }

-- one of calls that write nothing
dry_in : (front : List Call) (z : Call) (back : List Call) → All IsDry (front ++ z ∷ back) → IsDry z
dry_in [] z back dry = All-head IsDry z back dry
dry_in (f ∷ front) z back dry = dry_in front z back (All-tail IsDry f (front ++ z ∷ back) dry)

dry_at : (front : List Call) (z : Call) (back cs : List Call) → cs ≡ front ++ z ∷ back → All IsDry cs → IsDry z
dry_at front z back cs is dry = dry_in front z back (subst (λ (l : List Call). All IsDry l) is dry)

never_write : (z : Call) (steps : ℕ) → IsDry z → is_write (Failed z steps) ≡ true → ⊥
never_write z steps dry is = let no : false ≡ true = sym dry ∙ sym (failed_alike z steps) ∙ is in absurd (cc)

-- ---- a run

module _ (s : Setting) where
  dry_if : (due : Bool) (text : List ℕ) → All IsDry (if due then save_calls s.names text else [])
  dry_if true text = save_dry s.names text
  dry_if false text = All-nil IsDry

  dry_closing : (has : Bool) (text : List ℕ) → All IsDry (if has then save_calls s.names text else image_sync ∷ [])
  dry_closing true text = save_dry s.names text
  dry_closing false text = All-cons IsDry image_sync [] refl (All-nil IsDry)

  one_write : (none : Bool) (pos : ℕ) (piece : List ℕ)
      → writes_in (map Done (if none then [] else image_write pos piece ∷ [])) ≡ add (not none) 0
  one_write true pos piece = refl
  one_write false pos piece = refl

  -- each read of which something is kept is written
  run_writes : (m : Machine) (es : List Event) → writes_in (map Done (run_calls s m es)) ≡ keepers s.sector (reads_of es)
  run_writes m [] = refl
  run_writes m (e ∷ es) =
      let write : List Call = write_calls s e.reading in
      let due : List Call = due_calls s (move_of s m e) in
      let later : List Call = run_calls s (move_of s m e).after es in
      omega (
        arith,
        ap writes_in (map-append Done (write ++ due) later),
        count_both is_write (map Done (write ++ due)) (map Done later),
        ap writes_in (map-append Done write due),
        count_both is_write (map Done write) (map Done due),
        one_write (nat_eq (kept s.sector e.reading) 0) (place s e.reading.pos)
            (take (kept s.sector e.reading) e.reading.given),
        dry_count due (dry_if (is_due s (move_of s m e)) (text_of s.line (snapshot_of (move_of s m e).after))),
        run_writes (move_of s m e).after es,
        add_more (is_kept s.sector 0 e.reading) (keepers s.sector (reads_of es)),
      )

  -- the calls up to one that failed have at least the writes of those before
  writes_of : (xs front : List Call) (z : Call) (steps : ℕ) (calls : List Entry)
      → calls ≡ map Done (xs ++ front) ++ Failed z steps ∷ []
      → writes_in calls ≡ writes_in (map Done xs) + (writes_in (map Done front) + writes_in (Failed z steps ∷ []))
  writes_of xs front z steps calls is =
      omega (
        arith,
        ap writes_in is ∙ count_both is_write (map Done (xs ++ front)) (Failed z steps ∷ []),
        ap writes_in (map-append Done xs front) ∙ count_both is_write (map Done xs) (map Done front),
      )

  -- a write comes first among these calls
  first_write : (pos : ℕ) (piece : List ℕ) (due front : List Call) (z : Call) (back : List Call) (steps : ℕ)
      → image_write pos piece ∷ due ≡ front ++ z ∷ back
      → 1 ≤ writes_in (map Done front) + writes_in (Failed z steps ∷ [])
  first_write pos piece due [] z back steps is =
      let same : image_write pos piece ≡ z = cc in
      let one : writes_in (Failed z steps ∷ []) ≡ 1
      = ap (λ (c : Call). writes_in (Failed c steps ∷ [])) (sym same) in
      omega (arith, one)
  first_write pos piece due (f ∷ front) z back steps is =
      let same : image_write pos piece ≡ f = cc in
      omega (
        arith,
        count_step is_write (Done f) (map Done front),
        ap (λ (c : Call). add (is_write (Done c)) 0) (sym same),
      )

  module _ (m : Machine) (before : List Event) (last : Event) where
    abbrev xs : List Call
    xs = run_calls s m before

    abbrev r : Reading
    r = last.reading

    abbrev rs : List Reading
    rs = reads_of before ++ last.reading ∷ []

    -- a call for the last read failed
    failed_or : (none : Bool) → nat_eq (kept s.sector last.reading) 0 ≡ none → (due : List Call) → All IsDry due
        → (pos : ℕ) (piece : List ℕ) (calls : List Entry)
        → (b : Broken ((if none then [] else image_write pos piece ∷ []) ++ due) (run_calls s m before) calls)
        → (calls ≡ map Done (run_calls s m before ++ b.front))
        ⊎ ((steps : ℕ) × (calls ≡ map Done (run_calls s m before ++ b.front) ++ Failed b.z steps ∷ []))
        → Ended s.sector calls (reads_of before ++ last.reading ∷ [])
    failed_or none off due dry pos piece calls b (inl same) = AllDone (xs ++ b.front) same
    failed_or true off due dry pos piece calls b (inr (steps, same)) =
        FailsAt (xs ++ b.front) b.z steps same
        (omega (
          arith,
          keepers_both s.sector (reads_of before) (r ∷ []),
          ap (λ (n : Bool). add (not n) 0) off,
          writes_of xs b.front b.z steps calls same,
          run_writes m before,
        ))
        (λ is. absurd (never_write b.z steps (dry_at b.front b.z b.back due b.is dry) is))
    failed_or false off due dry pos piece calls b (inr (steps, same)) =
        FailsAt (xs ++ b.front) b.z steps same
        (omega (
          arith,
          keepers_both s.sector (reads_of before) (r ∷ []),
          ap (λ (n : Bool). add (not n) 0) off,
          writes_of xs b.front b.z steps calls same,
          run_writes m before,
          first_write pos piece due b.front b.z b.back steps b.is,
        ))
        (λ is. kept_last s.sector (reads_of before) r off)

    last_ended : (none : Bool) → nat_eq (kept s.sector last.reading) 0 ≡ none → (due : List Call) → All IsDry due
        → (pos : ℕ) (piece : List ℕ) (calls : List Entry)
        → Broken ((if none then [] else image_write pos piece ∷ []) ++ due) (run_calls s m before) calls
        → Ended s.sector calls (reads_of before ++ last.reading ∷ [])
    last_ended none off due dry pos piece calls b = failed_or none off due dry pos piece calls b b.how

  unsaved_or : (m : Machine) (events : List Event) (calls : List Entry)
      (b : Broken (end_calls s m events) (run_calls s m events) calls)
      → (calls ≡ map Done (run_calls s m events ++ b.front))
      ⊎ ((steps : ℕ) × (calls ≡ map Done (run_calls s m events ++ b.front) ++ Failed b.z steps ∷ []))
      → Ended s.sector calls (reads_of events)
  unsaved_or m events calls b (inl same) = AllDone (run_calls s m events ++ b.front) same
  unsaved_or m events calls b (inr (steps, same)) =
      FailsAt (run_calls s m events ++ b.front) b.z steps same
      (omega (arith, writes_of (run_calls s m events) b.front b.z steps calls same, run_writes m events))
      (λ is. absurd (never_write b.z steps
      (dry_at b.front b.z b.back (end_calls s m events) b.is
      (dry_closing s.has_mapfile (text_of s.line (last_snapshot s (state_after s m events))))) is))

  ends_ended : (m : Machine) (events : List Event) (calls : List Entry) (end : RunEnd) → Ends s m events calls end
      → Ended s.sector calls (reads_of events)
  ends_ended m events calls end (IsSaved stop ends same all) = AllDone (run_calls s m events ++ end_calls s m events) all
  ends_ended m events calls end (IsUnsaved stop call ends same broke) =
      let b : Broken (end_calls s m events) (run_calls s m events) calls
      = broken call (end_calls s m events) (run_calls s m events) calls broke in
      unsaved_or m events calls b b.how
  ends_ended m events calls end (IsBroken before last call split same broke) =
      let v = move_of s (state_after s m before) last in
      let b : Broken (move_calls s (move_of s (state_after s m before) last)) (run_calls s m before) calls
      = broken call (move_calls s (move_of s (state_after s m before) last)) (run_calls s m before) calls broke in
      subst (λ (rs : List Reading). Ended s.sector calls rs)
      (sym (ap (λ (l : List Event). reads_of l) split ∙ map-append (λ (e : Event). e.reading) before (last ∷ [])))
      (last_ended m before last (nat_eq (kept s.sector last.reading) 0) refl (due_calls s v)
      (dry_if (is_due s v) (text_of s.line (snapshot_of v.after))) (place s last.reading.pos)
      (take (kept s.sector last.reading) last.reading.given) calls b)

  -- ---- a rescue

  -- of one that read nothing nothing is asked
  unread_ended : (calls xs : List Call) (new : List Entry) (reads : List Reading) → reads ≡ []
      → (b : Broken calls xs new)
      → (new ≡ map Done (xs ++ b.front)) ⊎ ((steps : ℕ) × (new ≡ map Done (xs ++ b.front) ++ Failed b.z steps ∷ []))
      → Ended s.sector new reads
  unread_ended calls xs new reads none b (inl same) = AllDone (xs ++ b.front) same
  unread_ended calls xs new reads none b (inr (steps, same)) =
      FailsAt (xs ++ b.front) b.z steps same (omega (arith, ap (λ (rs : List Reading). keepers s.sector rs) none))
      (λ is. no_reads s.sector reads none)

  broke_unread : (at : SiteCall) (calls : List Call) (new : List Entry) (reads : List Reading) → reads ≡ []
      → BrokeAt at calls [] new → Ended s.sector new reads
  broke_unread at calls new reads none broke =
      let b : Broken calls [] new = broken at calls [] new broke in unread_ended calls [] new reads none b b.how

  module _ (files : List ℕ → Option File) where
    on_ended : (g : Gain) → GoesOn s files g → Ended s.sector g.calls g.reads
    on_ended g (InOpening front back same none (inl is)) = AllDone front is
    on_ended g (InOpening front back same none (inr (call, rest, split, inl (steps, is)))) =
        FailsAt front call steps is (omega (arith, ap (λ (rs : List Reading). keepers s.sector rs) none))
        (λ w. no_reads s.sector g.reads none)
    on_ended g (InOpening front back same none (inr (call, rest, split, inr is))) = AllDone front is
    on_ended g (InLoad load has loads none (inl is)) = AllDone (opening_calls s ++ load) is
    on_ended g (InLoad load has loads none (inr broke)) =
        broke_unread MapRead (opening_calls s ++ load) g.calls g.reads none broke
    on_ended g (InRun load statuses state end rest loaded stands same runs) =
        let m : Machine = begins s statuses state g in
        let reads : reads_of (events_in g) ≡ g.reads
        = timed g.reads (drop 1 g.times) (omega (arith, runs.times, length-drop 1 g.times)) in
        ended_after s.sector (opening_calls s ++ load) rest g.calls g.reads same
        (subst (λ (rs : List Reading). Ended s.sector rest rs) reads (ends_ended m (events_in g) rest end runs.ends))

    goes_ended : (g : Gain) → Goes s files g → Ended s.sector g.calls g.reads
    goes_ended g (InMaps maps reads none broke) = broke_unread MapRead maps g.calls g.reads none broke
    goes_ended g (AfterMaps maps rest reads same on_goes) =
        ended_after s.sector maps rest g.calls g.reads same (on_ended (record g { calls = rest }) on_goes)

-- ---- the call that failed

pub never_done : (xs : List Call) (before after : List Entry) (call : Call) (steps : ℕ)
    → map Done xs ≡ before ++ Failed call steps ∷ after → ⊥
never_done [] [] after call steps is = absurd (cc)
never_done [] (e ∷ before) after call steps is = absurd (cc)
never_done (x ∷ xs) [] after call steps is = absurd (cc)
never_done (x ∷ xs) (e ∷ before) after call steps is =
    let tail : map Done xs ≡ before ++ Failed call steps ∷ after = cc in never_done xs before after call steps tail

none_after : (before after : List Entry) (e : Entry) → [] ≡ before ++ e ∷ after → ⊥
none_after [] after e is = absurd (cc)
none_after (d ∷ before) after e is = absurd (cc)

pub last_failed : (xs : List Call) (z : Call) (n : ℕ) (before after : List Entry) (call : Call) (steps : ℕ)
    → map Done xs ++ Failed z n ∷ [] ≡ before ++ Failed call steps ∷ after → (after ≡ []) × (Failed z n ≡ Failed call steps)
last_failed [] z n [] after call steps is =
    let same : Failed z n ≡ Failed call steps = cc in
    let none : [] ≡ after = cc in (sym none, same)
last_failed [] z n (e ∷ before) after call steps is =
    let no : [] ≡ before ++ Failed call steps ∷ after = cc in absurd (none_after before after (Failed call steps) no)
last_failed (x ∷ xs) z n [] after call steps is = absurd (cc)
last_failed (x ∷ xs) z n (e ∷ before) after call steps is =
    let tail : map Done xs ++ Failed z n ∷ [] ≡ before ++ Failed call steps ∷ after = cc in
    last_failed xs z n before after call steps tail

-- the calls up to the one that failed are all
taken : (calls before after : List Entry) (e : Entry) → calls ≡ before ++ e ∷ after → after ≡ []
    → take (length before + 1) calls ≡ calls
taken calls before after e is none =
    let long : length calls ≡ length before + 1
    = omega (
      arith,
      ap length is ∙ length-append before (e ∷ after),
      ap (λ (l : List Entry). length l) none,
    ) in
    subst (λ (n : ℕ). take n calls ≡ calls) long (take-length calls)

module _ (sector : ℕ) (reads : List Reading) (calls before after : List Entry) (call : Call) (steps : ℕ)
    (is : calls ≡ before ++ Failed call steps ∷ after) where
  abbrev Waited : Type 0
  Waited = (after ≡ []) × ((rest : List Reading)
      × (reads ≡ reads_until sector (writes_in (take (length before + 1) calls)) reads ++ rest)
      × All (λ read. kept sector read ≡ 0) rest × (is_write (Failed call steps) ≡ true → rest ≡ []))

  waited : Ended sector calls reads → Waited
  waited (AllDone xs same) = absurd (never_done xs before after call steps (sym same ∙ is))
  waited (FailsAt xs z n same few last) =
      let at = last_failed xs z n before after call steps (sym same ∙ is) in
      let cut : writes_in calls ≡ writes_in (take (length before + 1) calls)
      = ap writes_in (sym (taken calls before after (Failed call steps) is at.0)) in
      let split : Split sector (writes_in (take (length before + 1) calls)) reads
      = split_until sector reads (writes_in (take (length before + 1) calls)) (omega (arith, few, cut)) in (
        at.0,
        (
          split.rest,
          split.is,
          split.none,
          (λ w. last (ap is_write at.1 ∙ w)
              (reads_until sector (writes_in (take (length before + 1) calls)) reads) split.rest split.is split.none),
        ),
      )

pub reads_wait : ReadsWait
reads_wait r reads before call steps after seen is =
    let sector : ℕ = r.command.options.sector in
    let same : reads ≡ (g r).reads = seen_alone r reads seen in
    let ended : Ended sector (g r).calls (g r).reads = goes_ended (s r) (files_before (b r)) (g r) (goes r) in
    waited sector reads r.did.call.calls before after call steps is
    (subst (λ (rs : List Reading). Ended sector r.did.call.calls rs) (sym same)
    (subst (λ (l : List Entry). Ended sector l (g r).reads) (sym (calls_are r)) ended))
