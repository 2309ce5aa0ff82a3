-- What had returned when a read after the first ones had begun to be written.
use Rattle.std.proofs.Common.{◌≡◌, ⊎_elim, ℕ, zero, suc, ◌+◌, ◌<◌, ◌≤◌, List, [], ◌∷◌, ◌++◌, length, take, drop, map, Option, refl, sym, ap, ◌∙◌, subst, arith, append_assoc, length-append}
use Rattle.std.proofs.Math.Seq.{take-nil}
use Rattle.block_list.specs.declared.status.Status.{Status}
use Rattle.mapfile_text.specs.declared.state.MapState.{MapState}
use Rattle.faulty_source.specs.Journal.{Reading}
use Rattle.crash_site.specs.Calls.{Call, Entry, Done}
use Rattle.rescue_rules.specs.Setting.{Setting}
use Rattle.rescue_rules.specs.Machine.{Machine}
use Rattle.rescue_rules.specs.Step.{Event}
use Rattle.rescue_rules.specs.Moves.{state_after}
use Rattle.rescue_rules.specs.Events.{with_times, reads_of}
use Rattle.rescue_rules.specs.RunDeeds.{run_deeds}
use Rattle.rescue_rules.specs.Snapshots.{Snapshot, last_snapshot}
use Rattle.rescue_rules.specs.Stops.{Before, files_before, is_settle}
use Rattle.rescue_rules.specs.Work.{Gain, begins, events_in}
use Rattle.rescue_rules.proofs.CutLemmas.{Cut}
use Rattle.rescue_rules.proofs.DeedStages.{all_calls}
use Rattle.rescue_safety.specs.Safe.{reads_until}
use Rattle.rescue_safety.proofs.AskedLemmas.{until_front}
use Rattle.rescue_safety.proofs.BegunLemmas.{writes_in, Past, count_both}
use Rattle.rescue_safety.proofs.ClaimLemmas.{Ran}
use Rattle.rescue_safety.proofs.FinishedLemmas.{StandsAt}
use Rattle.rescue_safety.proofs.SaveLemmas.{Made, calls_of_run}
use Rattle.rescue_safety.proofs.SettleLemmas.{settled}
use Rattle.rescue_safety.proofs.ThenLemmas.{front, all_dry, parts, past_writes}
use Rattle.saved_laws.specs.GoesLaws.{GoesSafely}
use Rattle.saved_laws.proofs.LossLemmas.{until_zero, moved, due_settles, Returned, moves_returned}
use Rattle.saved_laws.proofs.SavedWalk.{first_settled}
use Rattle.saved_laws.proofs.SavedLemmas.{unread_or_stands}
use Rattle.rescue_safety.proofs.DryLemmas.{cut_dry}

-- ---- events and reads

-- the events of the first reads are the first events
first_events : (a c : List Reading) (times : List ℕ)
    → (rest : List Event) × (with_times (a ++ c) times ≡ with_times a times ++ rest)
first_events [] c times = (with_times c times, refl)
first_events (r ∷ a) c [] = ([], refl)
first_events (r ∷ a) c (t ∷ []) = ([], refl)
first_events (r ∷ a) c (t ∷ u ∷ times) =
    let more = first_events a c times in
    (more.0, ap (λ (l : List Event). record { reading = r; before = t; after = u } ∷ l) more.1)

few_events : (rs : List Reading) (times : List ℕ) → length (with_times rs times) ≤ length rs
few_events [] times = omega arith
few_events (r ∷ rs) [] = omega arith
few_events (r ∷ rs) (t ∷ []) = omega arith
few_events (r ∷ rs) (t ∷ u ∷ times) = omega (arith, few_events rs times)

-- ---- calls

none_taken : (k : ℕ) (y : Entry) (ys : List Entry) → take k [] ≡ y ∷ ys → ⊥
none_taken k y ys is = let e : [] ≡ y ∷ ys = sym (take-nil k) ∙ is in absurd (cc)

-- one call less still has those before it
one_less : (es ys : List Entry) (y : Entry) (calls : List Entry) (k : ℕ) → take (suc k) calls ≡ es ++ y ∷ ys
    → (rest : List Entry) × (take k calls ≡ es ++ rest)
one_less [] ys y calls k is = (take k calls, refl)
one_less (e ∷ es) ys y [] k is = absurd (none_taken (suc k) e (es ++ y ∷ ys) is)
one_less (e ∷ []) ys y (c ∷ calls) zero is = absurd (cc)
one_less (e ∷ f ∷ es) ys y (c ∷ calls) zero is = absurd (cc)
one_less (e ∷ es) ys y (c ∷ calls) (suc k) is =
    let same : c ≡ e = cc in
    let tail : take (suc k) calls ≡ es ++ y ∷ ys = cc in
    let more = one_less es ys y calls k tail in
    (more.0, ap (λ (z : Entry). z ∷ take k calls) same ∙ ap (λ (l : List Entry). e ∷ l) more.1)

-- ---- a rescue

module _ (b : Before) (s : Setting) (g : Gain) (q : GoesSafely b s g) (k : ℕ) (first more : List Event) (next : Event)
    (x : ℕ)
    (is : with_times (reads_until s.sector (writes_in (take (k + 1) g.calls)) g.reads) (drop 1 g.times)
    ≡ first ++ next ∷ more) where
  abbrev n : ℕ
  n = writes_in (take (k + 1) g.calls)

  abbrev then_read : List Reading
  then_read = reads_until s.sector (writes_in (take (k + 1) g.calls)) g.reads

  rest_of : (rest : List Event) × (events_in g ≡ (first ++ next ∷ more) ++ rest)
  rest_of =
      let cut = until_front s.sector g.reads n in
      let parts = first_events then_read cut.0 (drop 1 g.times) in (
        parts.0,
        ap (λ (rs : List Reading). with_times rs (drop 1 g.times)) cut.1 ∙ parts.1
            ∙ ap (λ (l : List Event). l ++ parts.0) is,
      )

  pub all_events : (after : List Event) × (events_in g ≡ first ++ next ∷ after)
  all_events = (more ++ rest_of.0, rest_of.1 ∙ append_assoc first (next ∷ more) rest_of.0)

  -- the reads by then are more than the first ones
  enough : length first < length then_read
  enough =
      omega (
        arith,
        few_events then_read (drop 1 g.times),
        ap length is ∙ length-append first (next ∷ more),
      )

  module _ (began : List Status) (was : Option MapState) (made : Made s began was g)
      (ran : Ran s began was g) where
    abbrev m : Machine
    m = begins s began was g

    abbrev head : List Call
    head = front s began was g made

    abbrev gone : List Entry
    gone = map Done (moved s q.sensible q.named x m first)

    -- the calls of the first moves have returned
    record Passed : Type 0 where
      rest : List Entry
      here : take k g.calls ≡ (map Done (front s began was g made)
          ++ map Done (moved s q.sensible q.named x (begins s began was g) first)) ++ rest

    passed_by : (part : List Entry) → take (k + 1) g.calls ≡ map Done head ++ part
        → Cut (calls_of_run s began was g) part → n ≡ writes_in part → Passed
    passed_by part at cut same =
        let back : List Event = next ∷ all_events.0 in
        let last : Snapshot = last_snapshot s (state_after s m (events_in g)) in
        let cut' : Cut (all_calls s (run_deeds s m (first ++ back)) last) part
        = subst (λ (l : List Event). Cut (all_calls s (run_deeds s m l) last) part) all_events.1 cut in
        let read : length (reads_until s.sector (writes_in part) (reads_of (first ++ back))) ≡ length then_read
        = ap (λ (l : List Event). length (reads_until s.sector (writes_in part) (reads_of l))) (sym all_events.1)
        ∙ ap (λ (rs : List Reading). length (reads_until s.sector (writes_in part) rs)) ran.reads
        ∙ ap (λ (i : ℕ). length (reads_until s.sector i g.reads)) (sym same) in
        let returned : Returned s q.sensible q.named x m first part
        = moves_returned s q.sensible q.named x m first back last part cut'
        (omega (arith, read, enough)) in
        let here : take (k + 1) g.calls ≡ (map Done head ++ gone) ++ returned.next ∷ returned.rest
        = at ∙ ap (λ (l : List Entry). map Done head ++ l) returned.is
        ∙ sym (append_assoc (map Done head) gone (returned.next ∷ returned.rest)) in
        let one : k + 1 ≡ suc k = omega arith in
        let less = one_less (map Done head ++ gone) returned.rest returned.next g.calls k
        (subst (λ (i : ℕ). take i g.calls ≡ (map Done head ++ gone) ++ returned.next ∷ returned.rest) one here) in
        record { rest = less.0; here = less.1 }

    passed : Passed
    passed =
        ⊎_elim
        (λ (c : Cut head (take (k + 1) g.calls)).
        absurd (let no : ⊥ = omega (
          arith,
          enough,
          ap (λ (i : ℕ). length (reads_until s.sector i g.reads))
              (cut_dry head (take (k + 1) g.calls) (all_dry s began was g made) c),
          until_zero s.sector g.reads,
        ) in no))
        (λ (c : Past head (calls_of_run s began was g) (take (k + 1) g.calls)).
        passed_by c.rest c.is c.cut (past_writes s began was g made (take (k + 1) g.calls) c))
        (parts s began was g made (k + 1))

    -- the barrier's settle, and those of the first moves
    pub enough_settled : 1 + due_settles s q.sensible q.named x (begins s began was g) first
        ≤ settled (take k g.calls)
    enough_settled =
        omega (
          arith,
          ap settled passed.here,
          count_both is_settle (map Done head ++ gone) passed.rest,
          count_both is_settle (map Done head) gone,
          first_settled s began was g made,
        )

  pub began_or : StandsAt (files_before b s.names.map) s.end
  began_or =
      ⊎_elim
      (λ (none : g.reads ≡ []).
      absurd (let no : ⊥ = omega (
        arith,
        enough,
        ap (λ (rs : List Reading). length (reads_until s.sector n rs)) none,
      ) in no))
      (λ (at : StandsAt (files_before b s.names.map) s.end). at)
      (unread_or_stands s (files_before b) g q.named q.goes)
