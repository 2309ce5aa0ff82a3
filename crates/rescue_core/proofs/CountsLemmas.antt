-- The counts of a run after a read, as they are looked up.
use Rattle.std.proofs.Common.{◌≡◌, ℕ, zero, suc, ◌+◌, ◌-◌, ◌<◌, ◌≤◌, ◌^◌, min, Bool, true, false, not, ◌&&◌, ◌||◌, if◌then◌else◌, List, [], ◌∷◌, length, Option, Some, None, refl, sym, ap, subst, ◌∙◌, arith, ⊎_elim}
use Rattle.std.specs.List.{list_any, slice_get, slice_index_or}
use Rattle.std.proofs.Math.Path.{fun_ext}
use Rattle.std.proofs.lemmas.Bool.{cases_lt, cases_Bool, and_right, cond-true, cond-false}
use Rattle.std.proofs.lemmas.Option.{same_Some, slice_get_past}
use Rattle.block_list.specs.declared.areas.Count.{Count}
use Rattle.block_list.specs.declared.block.Range.{Range}
use Rattle.block_list.specs.declared.status.Status.{Status}
use Rattle.block_list.specs.declared.status.Status.TheVariants.{NonTried, NonTrimmed, NonScraped, BadSector, Finished}
use Rattle.block_list.specs.Status.{same}
use Rattle.block_list.specs.Areas.{begins_area, count_below, count_of}
use Rattle.faulty_source.specs.Ends.{is_before}
use Rattle.faulty_source.specs.Journal.{Reading, is_failed, kept}
use Rattle.rescue_domain.specs.declared.live.Live.{Live}
use Rattle.rescue_domain.specs.Live.{lives}
use Rattle.rescue_domain.specs.Parts.{covers}
use Rattle.map_counts.specs.Summary.{count_from, has_one}
use Rattle.map_counts.proofs.CountLemmas.{count_with}
use Rattle.transfer_token.specs.declared.token.Request.{Request}
use Rattle.rescue_rules.specs.declared.phase.Phase.{Phase}
use Rattle.rescue_rules.specs.declared.report.Counts.{Counts}
use Rattle.rescue_rules.specs.Setting.{Setting, IsSensible}
use Rattle.rescue_rules.specs.Machine.{Machine, is_live, IsRequest}
use Rattle.rescue_rules.specs.MachineLaws.{StepsBy}
use Rattle.rescue_rules.specs.Step.{Event, copies, is_copying, map_after, step}
use Rattle.rescue_rules.specs.Counts.{has_failed, has_finished, passes, passing, counts_of}
use Rattle.rescue_rules.specs.Recounts.{ComesIn, GoesOut, EndsAt, count_within, is_in_front}
use Rattle.rescue_rules.proofs.CountLemmas.{MarksCount, marks_count, end_counts, on_counts}
use Rattle.rescue_rules.proofs.SetLemmas.{begins_is, begins_same, below_within, within_most, within_short}
use Rattle.rescue_rules.proofs.StepLemmas.{move_steps}
use Rattle.rescue_core.specs.declared.turn.Turn.{Turn}
use Rattle.rescue_core.specs.Counting.{IsMarkedRead, failed_in, finished_in, counts_within}
use Rattle.rescue_core.specs.RunState.{RunState, setting_in, HasCounts}
use Rattle.rescue_core.specs.Turning.{stepped}
use Rattle.rescue_core.specs.TurnParts.{end_met}
use Rattle.rescue_core.proofs.StageLemmas.{running_sensible}

-- a test that non-tried positions don't pass, at a position of a map or past it
passes_at : (test : Status → Bool) (map : List Status) (x : ℕ) → test NonTried ≡ false
    → test (slice_index_or map x NonTried) ≡ passes test (slice_get map x)
passes_at test [] x none = none
passes_at test (t ∷ map) zero none = refl
passes_at test (t ∷ map) (suc x) none = passes_at test map x none

one_failed : (t : Status)
    → list_any (λ s. same t s) (NonTrimmed ∷ NonScraped ∷ BadSector ∷ []) ≡ has_failed t
one_failed NonTried = refl
one_failed _ = refl

one_finished : (t : Status) → list_any (λ s. same t s) (Finished ∷ []) ≡ has_finished t
one_finished NonTried = refl
one_finished _ = refl

failed_set : (domain : ℕ → Bool) (map : List Status)
    → has_one domain map (NonTrimmed ∷ NonScraped ∷ BadSector ∷ []) ≡ passing has_failed domain map
failed_set domain map =
    fun_ext (λ x. ap (λ b. domain x && b) (one_failed (slice_index_or map x NonTried) ∙ passes_at has_failed map x refl))

finished_set : (domain : ℕ → Bool) (map : List Status)
    → has_one domain map (Finished ∷ []) ≡ passing has_finished domain map
finished_set domain map =
    fun_ext (λ x. ap (λ b. domain x && b) (one_finished (slice_index_or map x NonTried) ∙ passes_at has_finished map x refl))

pub failed_counted : (domain : ℕ → Bool) (map : List Status) (from to : ℕ)
    → count_from (has_one domain map (NonTrimmed ∷ NonScraped ∷ BadSector ∷ [])) from to
    ≡ count_from (passing has_failed domain map) from to
failed_counted domain map from to = ap (λ (set : ℕ → Bool). count_from set from to) (failed_set domain map)

pub finished_counted : (domain : ℕ → Bool) (map : List Status) (from to : ℕ)
    → count_from (has_one domain map (Finished ∷ [])) from to ≡ count_from (passing has_finished domain map) from to
finished_counted domain map from to = ap (λ (set : ℕ → Bool). count_from set from to) (finished_set domain map)

pub count_is : (a b : Count) → a.bytes ≡ b.bytes → a.areas ≡ b.areas → a ≡ b
count_is a b bytes areas = ap (λ n. count_with n a.areas) bytes ∙ ap (λ n. count_with b.bytes n) areas

abbrev counts_with : (rescued : ℕ) (failed : Count) → Counts
counts_with rescued failed = record { rescued = rescued; failed = failed }

pub counts_are : (a b : Counts) → a.rescued ≡ b.rescued → a.failed ≡ b.failed → a ≡ b
counts_are a b rescued failed = ap (λ n. counts_with n a.failed) rescued ∙ ap (λ (c : Count). counts_with b.rescued c) failed

-- the counts of a whole map
pub counts_below : (finished failed : ℕ → Bool) (end : ℕ)
    → counts_within finished failed 0 end ≡ record { rescued = count_below finished end; failed = count_of failed end }
counts_below finished failed end =
    counts_are (counts_within finished failed 0 end) (counts_with (count_below finished end) (count_of failed end))
    (sym (below_within finished end))
    (count_is (count_with (count_within failed 0 end) (count_within (begins_area failed) 0 end)) (count_of failed end)
    (sym (below_within failed end)) (sym (below_within (begins_area failed) end)))

-- what an event of a run's request is
pub record Reads (r : RunState) (e : Event) (phase : Phase) (request : Request) (turn : Turn) (live : Live)
    (map : List Status) : Type 0 where
  pub marks : MarksCount (setting_in r) r.machine e.reading (failed_in live map)
      (counts_of (is_live (setting_in r) r.machine) r.machine.map) (counts_of (is_live (setting_in r) r.machine) map)
  pub pos : e.reading.pos ≡ request.pos
  pub asked : e.reading.asked ≡ request.len
  pub kept_is : kept r.settings.sector e.reading ≡ turn.kept
  pub fails : is_failed e.reading ≡ not (turn.whole || turn.ended)
  pub copies_is : is_copying r.machine ≡ copies phase
  pub there : request.pos + request.len < 2 ^ 63
  pub most : turn.kept ≤ request.len
  pub short : length map < 2 ^ 63

-- the event that a marked read is
record Asks (r : RunState) (e : Event) : Type 0 where
  ok : IsSensible (setting_in r)
  request : IsRequest (setting_in r) r.machine e.reading.pos (e.reading.pos + e.reading.asked)
  few : length e.reading.given ≤ e.reading.asked

asks : (r : RunState) (e : Event) (phase : Phase) (request : Request) (turn : Turn) (live : Live) (map : List Status)
    → IsMarkedRead r e phase request turn live map → Asks r e
asks r e phase request turn live map is = record {
  ok = running_sensible r is.room is.running;
  request = subst (λ (p : ℕ). IsRequest (setting_in r) r.machine p (p + e.reading.asked)) (sym is.read.pos)
      (subst (λ (n : ℕ). IsRequest (setting_in r) r.machine request.pos (request.pos + n)) (sym is.read.asked) is.asks);
  few = omega (arith, is.few, is.read.asked);
}

pub reads_of : (r : RunState) (e : Event) (phase : Phase) (request : Request) (turn : Turn) (live : Live)
    (map : List Status) → IsMarkedRead r e phase request turn live map → Reads r e phase request turn live map
reads_of r e phase request turn live map is =
    let s : Setting = setting_in r in
    let m : Machine = r.machine in
    let a : Asks r e = asks r e phase request turn live map is in
    let by : StepsBy s m e = move_steps s m e a.ok is.running.order a.request a.few in
    let old : Counts = counts_of (is_live s m) m.map in
    let counted : MarksCount s m e.reading (passing has_failed (is_live s m) (map_after s m e.reading)) old
    (counts_of (is_live s m) (map_after s m e.reading))
    = marks_count s m e.reading a.ok is.running.order a.request a.few in
    let at_map : MarksCount s m e.reading (passing has_failed (is_live s m) map) old (counts_of (is_live s m) map)
    = subst (λ (l : List Status). MarksCount s m e.reading (passing has_failed (is_live s m) l) old (counts_of (is_live s m) l))
    (sym is.map_is) counted in
    let at_domain : MarksCount s m e.reading (passing has_failed (λ x. covers live.domain.now x && is_before m.tally.over x) map) old
    (counts_of (is_live s m) map)
    = subst
    (λ (d : List Range). MarksCount s m e.reading (passing has_failed (λ x. covers d x && is_before m.tally.over x) map) old
    (counts_of (is_live s m) map))
    (sym is.domain_is) at_map in
    record {
      marks = subst
          (λ (o : Option ℕ). MarksCount s m e.reading (passing has_failed (λ x. covers live.domain.now x && is_before o x) map) old
          (counts_of (is_live s m) map))
          (sym is.over_is) at_domain;
      pos = is.read.pos;
      asked = is.read.asked;
      kept_is = ap (λ (t : Turn). t.kept) (sym is.answers);
      fails = ap (λ (t : Turn). not (t.whole || t.ended)) (sym is.answers);
      copies_is = ap (λ p. copies p.phase) is.running.pass ∙ ap copies is.phase_is;
      there = omega (arith, is.running.short, by.there, is.read.pos, is.read.asked);
      most = omega (arith, by.kept_asked, is.read.asked, ap (λ (t : Turn). t.kept) is.answers);
      short = omega (arith, is.running.short, by.size, ap (λ (l : List Status). length l) is.map_is);
    }

below_most : (set : ℕ → Bool) (end : ℕ) → count_below set end ≤ end
below_most set end = omega (arith, below_within set end, within_most set 0 end)

-- no count is longer than its map
pub record Small (counts : Counts) : Type 0 where
  pub rescued : counts.rescued < 2 ^ 63
  pub bytes : counts.failed.bytes < 2 ^ 63
  pub areas : counts.failed.areas < 2 ^ 63

pub small_counts : (domain : ℕ → Bool) (map : List Status) → length map < 2 ^ 63 → Small (counts_of domain map)
small_counts domain map short = record {
  rescued = omega (arith, short, below_most (passing has_finished domain map) (length map));
  bytes = omega (arith, short, below_most (passing has_failed domain map) (length map));
  areas = omega (arith, short, below_most (begins_area (passing has_failed domain map)) (length map));
}

-- a change between the same places
pub comes_at : (set : ℕ → Bool) (p k q p' k' q' : ℕ) (old old' new : Count) → p ≡ p' → k ≡ k' → q ≡ q' → old ≡ old'
    → ComesIn set p k q old new → ComesIn set p' k' q' old' new
comes_at set p k q p' k' q' old old' new e f g h c =
    subst (λ (p : ℕ). ComesIn set p k' q' old' new) e (subst (λ (k : ℕ). ComesIn set p k q' old' new) f
    (subst (λ (q : ℕ). ComesIn set p k q old' new) g (subst (λ (o : Count). ComesIn set p k q o new) h c)))

pub goes_at : (set : ℕ → Bool) (p k q p' k' q' : ℕ) (old old' new : Count) → p ≡ p' → k ≡ k' → q ≡ q' → old ≡ old'
    → GoesOut set p k q old new → GoesOut set p' k' q' old' new
goes_at set p k q p' k' q' old old' new e f g h c =
    subst (λ (p : ℕ). GoesOut set p k' q' old' new) e (subst (λ (k : ℕ). GoesOut set p k q' old' new) f
    (subst (λ (q : ℕ). GoesOut set p k q old' new) g (subst (λ (o : Count). GoesOut set p k q o new) h c)))

-- The counts after the marks of a read, from those before it.
pub marked_is : (r : RunState) (e : Event) (phase : Phase) (request : Request) (turn : Turn) (live : Live)
    (map : List Status) (counts got : Counts) → HasCounts r counts → IsMarkedRead r e phase request turn live map
    → got.rescued ≡ min (counts.rescued + turn.kept) (2 ^ 64 - 1)
    → got.failed ≡ (counts_of (is_live (setting_in r) r.machine) map).failed
    → got ≡ counts_of (is_live (setting_in r) r.machine) map
marked_is r e phase request turn live map counts got were is rescued failed =
    let reads : Reads r e phase request turn live map = reads_of r e phase request turn live map is in
    let small = small_counts (is_live (setting_in r) r.machine) map reads.short in
    counts_are got (counts_of (is_live (setting_in r) r.machine) map)
    (omega (arith, rescued, small.rescued, reads.marks.rescued, reads.kept_is, ap (λ (c : Counts). c.rescued) were.counts_are))
    failed

-- where the read met no end, and where it did
no_end : (r : Reading) → None ≡ end_met r → r.ended ≡ false
no_end r none =
    ⊎_elim
    (λ (t : r.ended ≡ true).
    let e : None ≡ Some (r.pos + length r.given) = none ∙ cond-true r.ended (Some (r.pos + length r.given)) None t in
    absurd (cc))
    (λ (f : r.ended ≡ false). f) (cases_Bool r.ended)

record MetAt (r : Reading) (end : ℕ) : Type 0 where
  ended : r.ended ≡ true
  at : end ≡ r.pos + length r.given

met_at : (r : Reading) (end : ℕ) → Some end ≡ end_met r → MetAt r end
met_at r end some =
    ⊎_elim
    (λ (t : r.ended ≡ true). record {
      ended = t;
      at = same_Some end (r.pos + length r.given) (some ∙ cond-true r.ended (Some (r.pos + length r.given)) None t);
    })
    (λ (f : r.ended ≡ false).
    let e : Some end ≡ None = some ∙ cond-false r.ended (Some (r.pos + length r.given)) None f in absurd (cc))
    (cases_Bool r.ended)

pub counted_on : (r : RunState) (e : Event) (heard : Bool) (phase : Phase) (request : Request) (turn : Turn) (live : Live)
    (map : List Status) (got : Counts) → IsMarkedRead r e phase request turn live map
    → got ≡ counts_of (is_live (setting_in r) r.machine) map → None ≡ end_met e.reading → HasCounts (stepped r e heard) got
counted_on r e heard phase request turn live map got is marked none = record {
  counts_are = marked ∙ ap (λ (l : List Status). counts_of (is_live (setting_in r) r.machine) l) is.map_is
      ∙ sym (on_counts (setting_in r) r.machine e (no_end e.reading none));
}

pub ends_at : (r : RunState) (e : Event) (phase : Phase) (request : Request) (turn : Turn) (live : Live)
    (map : List Status) (got : Counts) (end : ℕ) → IsMarkedRead r e phase request turn live map
    → got ≡ counts_of (is_live (setting_in r) r.machine) map → Some end ≡ end_met e.reading
    → EndsAt end (length map) (finished_in live map) (failed_in live map) got
    (counts_of (is_live (setting_in r) (step (setting_in r) r.machine e)) (step (setting_in r) r.machine e).map)
ends_at r e phase request turn live map got end is marked some =
    let s : Setting = setting_in r in
    let m : Machine = r.machine in
    let a : Asks r e = asks r e phase request turn live map is in
    let met : MetAt e.reading end = met_at e.reading end some in
    let new : Counts = counts_of (is_live s (step s m e)) (step s m e).map in
    let Ends : ℕ → List Status → Counts → (ℕ → Bool) → Type 0
    = λ (k : ℕ) (l : List Status) (c : Counts) (d : ℕ → Bool).
    EndsAt k (length l) (passing has_finished d l) (passing has_failed d l) c new in
    let counted : Ends (e.reading.pos + length e.reading.given) (map_after s m e.reading)
    (counts_of (is_live s m) (map_after s m e.reading)) (is_live s m)
    = end_counts s m e a.ok is.running.order a.request a.few met.ended in
    let at : Ends end map (counts_of (is_live s m) map) (is_live s m)
    = subst (λ (k : ℕ). Ends k map (counts_of (is_live s m) map) (is_live s m)) (sym met.at)
    (subst (λ (l : List Status). Ends (e.reading.pos + length e.reading.given) l (counts_of (is_live s m) l) (is_live s m))
    (sym is.map_is) counted) in
    let domain : Ends end map (counts_of (is_live s m) map) (λ x. covers live.domain.now x && is_before m.tally.over x)
    = subst (λ (d : List Range). Ends end map (counts_of (is_live s m) map) (λ x. covers d x && is_before m.tally.over x))
    (sym is.domain_is) at in
    subst (λ (c : Counts). Ends end map c (lives live)) (sym marked)
    (subst (λ (o : Option ℕ). Ends end map (counts_of (is_live s m) map) (λ x. covers live.domain.now x && is_before o x))
    (sym is.over_is) domain)

-- Up to where a map or what is left of a domain ends, all of the domain is left.
pub record IsEndOf (live : Live) (map : List Status) (top : ℕ) : Type 0 where
  pub within : top ≤ length map
  pub before : (x : ℕ) → x < top → is_before live.over x ≡ true
  pub past : (x : ℕ) → top ≤ x → x < length map → is_before live.over x ≡ false

and_true : (b c : Bool) → c ≡ true → b ≡ (b && c)
and_true true c e = sym e
and_true false c e = refl

left_before : (test : Status → Bool) (live : Live) (map : List Status) (top x : ℕ) → IsEndOf live map top → x < top
    → passing test (covers live.domain.now) map x ≡ passing test (lives live) map x
left_before test live map top x is lt =
    ap (λ (b : Bool). b && passes test (slice_get map x))
    (and_true (covers live.domain.now x) (is_before live.over x) (is.before x lt))

none_after : (test : Status → Bool) (live : Live) (map : List Status) (top x : ℕ) → IsEndOf live map top → top ≤ x
    → passing test (lives live) map x ≡ false
none_after test live map top x is le =
    ⊎_elim
    (λ (lt : x < length map).
    ap (λ (b : Bool). b && passes test (slice_get map x))
    (and_right (covers live.domain.now x) (is_before live.over x) (is.past x le lt)))
    (λ (ge : length map ≤ x).
    and_right (lives live x) (passes test (slice_get map x)) (ap (passes test) (slice_get_past map x ge)))
    (cases_lt x (length map))

left_counted : (test : Status → Bool) (live : Live) (map : List Status) (from top : ℕ) → IsEndOf live map top
    → count_within (passing test (covers live.domain.now) map) from top
    ≡ count_within (passing test (lives live) map) from (length map)
left_counted test live map from top is =
    within_short (passing test (covers live.domain.now) map) (passing test (lives live) map) from top (length map) is.within
    (λ x lt. left_before test live map top x is lt) (λ x le lt. none_after test live map top x is le)

left_begun : (test : Status → Bool) (live : Live) (map : List Status) (from top : ℕ) → IsEndOf live map top
    → count_within (begins_area (passing test (covers live.domain.now) map)) from top
    ≡ count_within (begins_area (passing test (lives live) map)) from (length map)
left_begun test live map from top is =
    let f : ℕ → Bool = passing test (covers live.domain.now) map in
    let g : ℕ → Bool = passing test (lives live) map in
    within_short (begins_area f) (begins_area g) from top (length map) is.within
    (λ x lt. begins_same f g x (λ y le. left_before test live map top y is (omega (arith, le, lt))))
    (λ x le lt. begins_is g x ∙ ap (λ b. b && not (is_in_front g x)) (none_after test live map top x is le))

-- what goes at an end, as it is looked up
pub cut_is : (live : Live) (map : List Status) (end top : ℕ) (counts got new : Counts) → IsEndOf live map top
    → EndsAt end (length map) (finished_in live map) (failed_in live map) counts new
    → got.rescued ≡ counts.rescued - count_within (passing has_finished (covers live.domain.now) map) end top
    → got.failed.bytes ≡ counts.failed.bytes - count_within (passing has_failed (covers live.domain.now) map) end top
    → got.failed.areas
    ≡ counts.failed.areas - count_within (begins_area (passing has_failed (covers live.domain.now) map)) end top
    → got ≡ new
cut_is live map end top counts got new is ends rescued bytes areas =
    counts_are got new
    (omega (arith, rescued, ends.rescued, left_counted has_finished live map end top is))
    (count_is got.failed new.failed
    (omega (arith, bytes, ends.bytes, left_counted has_failed live map end top is))
    (omega (arith, areas, ends.areas, left_begun has_failed live map end top is)))

-- the position right in front of another
pub front_at : (set : ℕ → Bool) (x : ℕ) → 0 < x → is_in_front set x ≡ set (x - 1)
front_at set zero some = absurd (omega (arith, some))
front_at set (suc x) some = ap set (omega arith)

pub front_none : (set : ℕ → Bool) (x : ℕ) → x ≤ 0 → is_in_front set x ≡ false
front_none set zero none = refl
front_none set (suc x) none = absurd (omega (arith, none))

abbrev pub one_if : Bool → ℕ
one_if b = if b then 1 else 0
