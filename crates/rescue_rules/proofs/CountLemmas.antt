-- How much of what is left of a domain is finished and failed after a read, by how much was before it.
use Rattle.std.proofs.Common.{◌≡◌, ℕ, ◌+◌, ◌-◌, ◌<◌, ◌≤◌, min, Bool, true, false, not, ◌&&◌, ◌||◌, nat_lt, Option, Some, None, List, length, refl, sym, ap, subst, ◌∙◌, arith, inl, inr, ⊎_elim}
use Rattle.std.specs.List.{slice_get}
use Rattle.std.proofs.lemmas.Bool.{cases_lt, cases_Bool, lt-ltb, le-ltb, ltb-true, and_right, or_parts, not-true, eq-eqb, true≢false, cond-true, cond-false, cond_both}
use Rattle.std.proofs.lemmas.Option.{slice_get_past}
use Rattle.block_list.specs.declared.areas.Count.{Count}
use Rattle.block_list.specs.declared.status.Status.{Status}
use Rattle.block_list.specs.declared.status.Status.TheVariants.{NonTrimmed, NonScraped, BadSector, Finished}
use Rattle.block_list.specs.Map.{Has}
use Rattle.block_list.specs.Areas.{begins_area, count_below, count_of}
use Rattle.faulty_source.specs.Ends.{is_before}
use Rattle.faulty_source.specs.Journal.{Reading, is_whole, is_failed, kept}
use Rattle.rescue_rules.specs.declared.phase.Phase.{Phase}
use Rattle.rescue_rules.specs.declared.phase.Phase.TheVariants.{Copying}
use Rattle.rescue_rules.specs.declared.report.Counts.{Counts}
use Rattle.rescue_rules.specs.declared.stop.TrimMode.{TrimMode}
use Rattle.rescue_rules.specs.declared.stop.TrimMode.TheVariants.{Lead, Tail}
use Rattle.rescue_rules.specs.Setting.{Setting, IsSensible}
use Rattle.rescue_rules.specs.Passes.{taken}
use Rattle.rescue_rules.specs.Machine.{Machine, pass_of, is_live, IsRequest}
use Rattle.rescue_rules.specs.MachineLaws.{IsInOrder}
use Rattle.rescue_rules.specs.Step.{Event, copies, is_copying, earlier, over_after, rest_status, scraped, map_after, step}
use Rattle.rescue_rules.specs.Counts.{has_failed, has_finished, passes, passing, counts_of}
use Rattle.rescue_rules.specs.Recounts.{ComesIn, GoesOut, EndsAt}
use Rattle.rescue_rules.proofs.GivenLemmas.{kept_given}
use Rattle.rescue_rules.proofs.MarkLemmas.{marked_inside, marked_outside}
use Rattle.rescue_rules.proofs.OverLemmas.{wanted_live, wanted_before}
use Rattle.rescue_rules.proofs.SetLemmas.{Changes, EndsBy, CutOff, begins_same, below_same, bytes_change, areas_came, areas_went, bytes_cut, areas_cut}
use Rattle.rescue_rules.proofs.StatusLemmas.{wanted_taken}
use Rattle.rescue_rules.proofs.StepLemmas.{Taking, Apart, with_kept, with_rest, read_takes, trims_is, tail_trims, kept_apart, rest_apart, kept_finished, rest_marked, rest_stands, back_low, pos_there, length-map_after}

-- a test that doesn't tell what is to be trimmed from what is to be scraped
abbrev IsBlind : (Status → Bool) → Type 0
IsBlind test = test NonScraped ≡ test NonTrimmed

-- what lies between a run's front and its back passes such a test as before
scraped_passes : (test : Status → Bool) → IsBlind test → (mode : TrimMode) (p : ℕ) (map : List Status) (x : ℕ)
    → p ≤ length map → ((low : ℕ) → mode ≡ Tail low → low ≤ p)
    → ((low : ℕ) → mode ≡ Tail low → low ≤ x → x < p → Has map NonTrimmed x)
    → passes test (slice_get (scraped mode p map) x) ≡ passes test (slice_get map x)
scraped_passes test blind Lead p map x there back between = refl
scraped_passes test blind (Tail low) p map x there back between =
    let le : low ≤ p = back low refl in
    ⊎_elim
    (λ (lt : x < low). ap (passes test) (marked_outside map low (p - low) NonScraped x (omega arith) (inl lt)))
    (λ (from : low ≤ x). ⊎_elim
    (λ (to : x < p).
    ap (passes test) (marked_inside map low (p - low) NonScraped x (omega arith) from (omega arith))
    ∙ blind ∙ sym (ap (passes test) (between low refl from to)))
    (λ (ge : p ≤ x). ap (passes test) (marked_outside map low (p - low) NonScraped x (omega arith) (inr (omega arith))))
    (cases_lt x p))
    (cases_lt x low)

-- at a run's back, what lies before the request is to be trimmed
between_trimmed : (s : Setting) (m : Machine) (r : Reading) (low x : ℕ) → IsInOrder s m → Taking s m r
    → m.progress.mode ≡ Tail low → low ≤ x → x < r.pos → Has m.map NonTrimmed x
between_trimmed s m r low x order t is from to =
    subst (λ (phase : Phase). Has m.map (taken phase) x) (trims_is (pass_of m).phase (tail_trims s m low order is))
    (wanted_taken s m x ((t.back low is).wanted x from to))

-- outside of what was asked for, each position passes such a test as before
apart_passes : (test : Status → Bool) → IsBlind test → (s : Setting) (m : Machine) (r : Reading) (x : ℕ) → IsInOrder s m
    → Taking s m r → Apart r x → passes test (slice_get (map_after s m r) x) ≡ passes test (slice_get m.map x)
apart_passes test blind s m r x order t apart =
    cond_both (is_failed r) (scraped m.progress.mode r.pos (with_rest s m r)) (with_kept s m r)
    (λ (map : List Status). passes test (slice_get map x) ≡ passes test (slice_get m.map x))
    (λ failed.
    scraped_passes test blind m.progress.mode r.pos (with_rest s m r) x (pos_there s m r t) (back_low s m r t)
    (λ low is from to. rest_apart s m r x t (inl to) ∙ between_trimmed s m r low x order t is from to)
    ∙ ap (passes test) (rest_apart s m r x t apart))
    (λ good. ap (passes test) (kept_apart s m r x t apart))

rest_failed : (s : Setting) (m : Machine) (size : ℕ) → has_failed (rest_status s m size) ≡ true
rest_failed s m size =
    cond_both (is_copying m && nat_lt s.sector size) NonTrimmed BadSector (λ (t : Status). has_failed t ≡ true)
    (λ is. refl) (λ is. refl)

rest_not_finished : (s : Setting) (m : Machine) (size : ℕ) → has_finished (rest_status s m size) ≡ false
rest_not_finished s m size =
    cond_both (is_copying m && nat_lt s.sector size) NonTrimmed BadSector (λ (t : Status). has_finished t ≡ false)
    (λ is. refl) (λ is. refl)

-- what a phase asks for had failed, unless it is copying, and isn't finished
taken_failed : (phase : Phase) → has_failed (taken phase) ≡ not (copies phase)
taken_failed Copying = refl
taken_failed _ = refl

taken_unfinished : (phase : Phase) → has_finished (taken phase) ≡ false
taken_unfinished Copying = refl
taken_unfinished _ = refl

-- a position is left of the domain and passes a test, or doesn't
passing_is : (test : Status → Bool) (s : Setting) (m : Machine) (map : List Status) (x : ℕ) (v : Bool)
    → is_live s m x ≡ true → passes test (slice_get map x) ≡ v → passing test (is_live s m) map x ≡ v
passing_is test s m map x v live is = ap (λ (b : Bool). b && passes test (slice_get map x)) live ∙ is

-- How a set of positions that are left and pass a test changes: all that was asked for passed it, or none did; what is
-- kept passes it or doesn't; and what is past that does or doesn't, by whether the read failed.
marks_change : (test : Status → Bool) → IsBlind test → (s : Setting) (m : Machine) (r : Reading) → IsInOrder s m
    → Taking s m r → (was rest : Bool) → test (taken (pass_of m).phase) ≡ was
    → (is_failed r ≡ true → test (rest_status s m (r.asked - kept s.sector r)) ≡ rest)
    → (is_failed r ≡ false → was ≡ rest)
    → Changes (passing test (is_live s m) m.map) (passing test (is_live s m) (map_after s m r))
    r.pos (r.pos + kept s.sector r) (r.pos + r.asked) was (test Finished) rest
marks_change test blind s m r order t was rest took failed good =
    let map : List Status = map_after s m r in
    let live : (x : ℕ) → r.pos ≤ x → x < r.pos + r.asked → is_live s m x ≡ true
    = λ x from to. wanted_live s m x (t.asks.wanted x from to) in
    let had : (x : ℕ) → r.pos ≤ x → x < r.pos + r.asked → passes test (slice_get m.map x) ≡ was
    = λ x from to. ap (passes test) (wanted_taken s m x (t.asks.wanted x from to)) ∙ took in
    record {
      some = t.asks.some;
      low = omega arith;
      high = omega (arith, t.few);
      outside = record {
        front = λ x lt. ap (λ (b : Bool). is_live s m x && b) (apart_passes test blind s m r x order t (inl lt));
        back = λ x le. ap (λ (b : Bool). is_live s m x && b) (apart_passes test blind s m r x order t (inr le));
      };
      old_are = record { each = λ x from to. passing_is test s m m.map x was (live x from to) (had x from to) };
      first_are = record {
        each = λ x from to.
            passing_is test s m map x (test Finished) (live x from (omega (arith, to, t.few)))
            (ap (passes test) (kept_finished s m r x t from to));
      };
      second_are = record {
        each = λ x from to.
            passing_is test s m map x rest (live x (omega (arith, from)) to)
            (⊎_elim
            (λ (f : is_failed r ≡ true). ap (passes test) (rest_marked s m r x t f from to) ∙ failed f)
            (λ (g : is_failed r ≡ false).
            ap (passes test) (rest_stands s m r x t g from) ∙ had x (omega (arith, from)) to ∙ good g)
            (cases_Bool (is_failed r)));
      };
    }

-- nothing lies past a map's end
passing_ends : (test : Status → Bool) (domain : ℕ → Bool) (map : List Status)
    → EndsBy (passing test domain map) (length map)
passing_ends test domain map = record {
  none = λ x le. ap (λ (o : Option Status). domain x && passes test o) (slice_get_past map x le) ∙ and_right (domain x) false refl;
}

-- The marks of a read, counted in what was left of the domain in front of it: by whether it was copying and failed, or
-- by whether anything was kept.
pub record MarksCount (s : Setting) (m : Machine) (r : Reading) (set : ℕ → Bool) (old new : Counts) : Type 0 where
  pub rescued : new.rescued ≡ old.rescued + kept s.sector r
  pub copied : is_copying m ≡ true → is_failed r ≡ false → new.failed ≡ old.failed
  pub missed : is_copying m ≡ true → is_failed r ≡ true
      → ComesIn set r.pos (r.pos + kept s.sector r) (r.pos + r.asked) old.failed new.failed
  pub nothing : is_copying m ≡ false → kept s.sector r ≡ 0 → new.failed ≡ old.failed
  pub some : is_copying m ≡ false → 0 < kept s.sector r
      → GoesOut set r.pos (r.pos + kept s.sector r) (r.pos + r.asked) old.failed new.failed

-- a set that changes from one value to the same is as it was
same_values : (old new : ℕ → Bool) (p k q : ℕ) (v w : Bool) → Changes old new p k q v w v → ((x : ℕ) → p ≤ x → x < k → w ≡ v)
    → (x : ℕ) → new x ≡ old x
same_values old new p k q v w c first x =
    ⊎_elim (λ (lt : x < p). c.outside.front x lt)
    (λ (from : p ≤ x). ⊎_elim
    (λ (to : x < q). ⊎_elim
    (λ (early : x < k). c.first_are.each x from early ∙ first x from early ∙ sym (c.old_are.each x from to))
    (λ (late : k ≤ x). c.second_are.each x late to ∙ sym (c.old_are.each x from to))
    (cases_lt x k))
    (λ (ge : q ≤ x). c.outside.back x ge)
    (cases_lt x q))
    (cases_lt x p)

begins_alike : (old new : ℕ → Bool) → ((x : ℕ) → new x ≡ old x) → (x : ℕ) → begins_area new x ≡ begins_area old x
begins_alike old new same x = begins_same new old x (λ y le. same y)

count_alike : (old new : ℕ → Bool) (end : ℕ) → ((x : ℕ) → new x ≡ old x) → count_of new end ≡ count_of old end
count_alike old new end same =
    let bytes : count_below new end ≡ count_below old end = below_same new old end (λ x lt. same x) in
    let areas : count_below (begins_area new) end ≡ count_below (begins_area old) end
    = below_same (begins_area new) (begins_area old) end (λ x lt. begins_alike old new same x) in
    cc

-- a failed read gave less than was asked for, and keeps no more
failed_less : (s : Setting) (r : Reading) → length r.given ≤ r.asked → is_failed r ≡ true → kept s.sector r < r.asked
failed_less s r few failed =
    let part : is_whole r ≡ false = (or_parts (is_whole r) r.ended (not-true (is_whole r || r.ended) failed)).0 in
    let other : length r.given ≡ r.asked → ⊥ = λ e. true≢false (sym (eq-eqb (length r.given) r.asked e) ∙ part) in
    omega (arith, kept_given s.sector r, other)

-- the positions that are left of the domain before a read and failed after it
abbrev pub failed_after : Setting → Machine → Reading → ℕ → Bool
failed_after s m r = passing has_failed (is_live s m) (map_after s m r)

pub marks_count : (s : Setting) (m : Machine) (r : Reading) → IsSensible s → IsInOrder s m
    → IsRequest s m r.pos (r.pos + r.asked) → length r.given ≤ r.asked
    → MarksCount s m r (failed_after s m r) (counts_of (is_live s m) m.map) (counts_of (is_live s m) (map_after s m r))
marks_count s m r ok order request few =
    let t : Taking s m r = read_takes s m r ok order request few in
    let live : ℕ → Bool = is_live s m in
    let map : List Status = map_after s m r in
    let size : length map ≡ length m.map = length-map_after s m r t in
    let k : ℕ = r.pos + kept s.sector r in
    let q : ℕ = r.pos + r.asked in
    let old : ℕ → Bool = passing has_failed live m.map in
    let new : ℕ → Bool = passing has_failed live map in
    let there : q ≤ length m.map = t.asks.there in
    let ends : EndsBy old (length m.map) = passing_ends has_failed live m.map in
    let ends' : EndsBy new (length m.map) = subst (λ (n : ℕ). EndsBy new n) size (passing_ends has_failed live map) in
    let at_end : count_of new (length map) ≡ count_of new (length m.map) = ap (λ (n : ℕ). count_of new n) size in
    let failing : (was rest : Bool) → has_failed (taken (pass_of m).phase) ≡ was → (is_failed r ≡ true → true ≡ rest)
    → (is_failed r ≡ false → was ≡ rest) → Changes old new r.pos k q was false rest
    = λ was rest took failed good.
    marks_change has_failed refl s m r order t was rest took
    (λ f. rest_failed s m (r.asked - kept s.sector r) ∙ failed f) good in
    let copying : is_copying m ≡ true → has_failed (taken (pass_of m).phase) ≡ false
    = λ on. taken_failed (pass_of m).phase ∙ ap not on in
    let other : is_copying m ≡ false → has_failed (taken (pass_of m).phase) ≡ true
    = λ off. taken_failed (pass_of m).phase ∙ ap not off in
    record {
      rescued =
          let c : Changes (passing has_finished live m.map) (passing has_finished live map) r.pos k q false true false
          = marks_change has_finished refl s m r order t false false (taken_unfinished (pass_of m).phase)
          (λ f. rest_not_finished s m (r.asked - kept s.sector r)) (λ g. refl) in
          let n = bytes_change (passing has_finished live m.map) (passing has_finished live map) r.pos k q (length m.map) false true false c there in
          omega (arith, n, ap (λ (n : ℕ). count_below (passing has_finished live map) n) size);
      copied = λ on good.
          let c : Changes old new r.pos k q false false false
          = failing false false (copying on) (λ f. absurd (true≢false (sym f ∙ good))) (λ g. refl) in
          at_end ∙ count_alike old new (length m.map) (same_values old new r.pos k q false false c (λ x from to. refl));
      missed = λ on failed.
          let c : Changes old new r.pos k q false false true
          = failing false true (copying on) (λ f. refl) (λ g. absurd (true≢false (sym failed ∙ g))) in
          let n = bytes_change old new r.pos k q (length m.map) false false true c there in
          let a = areas_came old new r.pos k q (length m.map) c (omega (arith, failed_less s r few failed)) there ends ends' in
          record { bytes = omega (arith, n, ap (λ (c : Count). c.bytes) at_end); areas = omega (arith, a, ap (λ (c : Count). c.areas) at_end) };
      nothing = λ off none.
          let c : Changes old new r.pos k q true false true = failing true true (other off) (λ f. refl) (λ g. refl) in
          at_end ∙ count_alike old new (length m.map)
          (same_values old new r.pos k q true false c (λ x from to. absurd (omega (arith, from, to, none))));
      some = λ off some.
          let c : Changes old new r.pos k q true false true = failing true true (other off) (λ f. refl) (λ g. refl) in
          let n = bytes_change old new r.pos k q (length m.map) true false true c there in
          let a = areas_went old new r.pos k q (length m.map) c (omega (arith, some)) there ends ends' in
          record { bytes = omega (arith, n, t.few, ap (λ (c : Count). c.bytes) at_end); areas = omega (arith, a, ap (λ (c : Count). c.areas) at_end) };
    }

-- Where a later end was met, or none, what lies before this one is left as before,
before_end : (over : Option ℕ) (end last x : ℕ) → is_before over last ≡ true → end ≤ last + 1 → x < end
    → is_before (Some (earlier over end)) x ≡ is_before over x
before_end None end last x below le lt = lt-ltb x end lt
before_end (Some other) end last x below le lt =
    let first : last < other = ltb-true last other below in
    lt-ltb x (min other end) (omega arith) ∙ sym (lt-ltb x other (omega arith))

-- and nothing else
past_end : (over : Option ℕ) (end x : ℕ) → end ≤ x → is_before (Some (earlier over end)) x ≡ false
past_end None end x le = le-ltb x end le
past_end (Some other) end x le = le-ltb x (min other end) (omega arith)

end_cuts : (test : Status → Bool) (s : Setting) (m : Machine) (e : Event) → Taking s m e.reading
    → length e.reading.given ≤ e.reading.asked → e.reading.ended ≡ true
    → CutOff (passing test (is_live s m) (map_after s m e.reading))
    (passing test (is_live s (step s m e)) (map_after s m e.reading)) (e.reading.pos + length e.reading.given)
end_cuts test s m e t few ended =
    let r : Reading = e.reading in
    let map : List Status = map_after s m r in
    let k : ℕ = r.pos + length r.given in
    let over : over_after m r ≡ Some (earlier m.tally.over k) = cond-true r.ended (Some (earlier m.tally.over k)) m.tally.over ended in
    let last : is_before m.tally.over (r.pos + r.asked - 1) ≡ true
    = wanted_before s m (r.pos + r.asked - 1)
    (t.asks.wanted (r.pos + r.asked - 1) (omega (arith, t.asks.some)) (omega (arith, t.asks.some))) in
    record {
      front = λ x lt.
          ap (λ (o : Option ℕ). (s.domain x && is_before o x) && passes test (slice_get map x)) over
          ∙ ap (λ (b : Bool). (s.domain x && b) && passes test (slice_get map x))
          (before_end m.tally.over k (r.pos + r.asked - 1) x last (omega (arith, few, t.asks.some)) lt);
      back = λ x le.
          ap (λ (o : Option ℕ). (s.domain x && is_before o x) && passes test (slice_get map x)) over
          ∙ ap (λ (b : Bool). (s.domain x && b) && passes test (slice_get map x)) (past_end m.tally.over k x le)
          ∙ ap (λ (b : Bool). b && passes test (slice_get map x)) (and_right (s.domain x) false refl);
    }

pub end_counts : (s : Setting) (m : Machine) (e : Event) → IsSensible s → IsInOrder s m
    → IsRequest s m e.reading.pos (e.reading.pos + e.reading.asked) → length e.reading.given ≤ e.reading.asked
    → e.reading.ended ≡ true
    → EndsAt (e.reading.pos + length e.reading.given) (length (map_after s m e.reading))
    (passing has_finished (is_live s m) (map_after s m e.reading)) (failed_after s m e.reading)
    (counts_of (is_live s m) (map_after s m e.reading)) (counts_of (is_live s (step s m e)) (step s m e).map)
end_counts s m e ok order request few ended =
    let r : Reading = e.reading in
    let t : Taking s m r = read_takes s m r ok order request few in
    let map : List Status = map_after s m r in
    let k : ℕ = r.pos + length r.given in
    let there : k ≤ length map = omega (arith, few, t.asks.there, length-map_after s m r t) in
    let cut = end_cuts has_failed s m e t few ended in
    record {
      rescued = bytes_cut (passing has_finished (is_live s m) map) (passing has_finished (is_live s (step s m e)) map) k
          (length map) (end_cuts has_finished s m e t few ended) there;
      bytes = bytes_cut (failed_after s m r) (passing has_failed (is_live s (step s m e)) map) k (length map) cut there;
      areas = areas_cut (failed_after s m r) (passing has_failed (is_live s (step s m e)) map) k (length map) cut there;
    }

-- and where it met none, what is left stands
pub on_counts : (s : Setting) (m : Machine) (e : Event) → e.reading.ended ≡ false
    → counts_of (is_live s (step s m e)) (step s m e).map ≡ counts_of (is_live s m) (map_after s m e.reading)
on_counts s m e on =
    ap (λ (o : Option ℕ). counts_of (λ x. s.domain x && is_before o x) (map_after s m e.reading))
    (cond-false e.reading.ended (Some (earlier m.tally.over (e.reading.pos + length e.reading.given))) m.tally.over on)
