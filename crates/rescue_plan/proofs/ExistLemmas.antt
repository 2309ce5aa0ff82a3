-- There is a plan: each read leaves less that may be asked for.
use Rattle.std.proofs.Common.{◌≡◌, ℕ, zero, suc, ◌+◌, ◌-◌, ◌*◌, ◌<◌, ◌≤◌, min, Bool, true, false, is_none, if◌then◌else◌, List, [], ◌∷◌, length, map, drop, replicate, All, Option, Some, None, refl, sym, ap, subst, ◌∙◌, arith, ⊎_elim}
use Rattle.std.specs.List.{slice_get}
use Rattle.std.proofs.Math.Nat.{mul-le-mul_right}
use Rattle.std.proofs.lemmas.Bool.{and_from, cases_lt, cases_Bool, cond_both, cond-true, cond-false, false_from_ne_true}
use Rattle.std.proofs.lemmas.List.{length-replicate}
use Rattle.std.proofs.lemmas.List.Elements.{All-nil, All-cons}
use Rattle.std.proofs.lemmas.Option.{same_Some}
use Rattle.run_options.specs.Limits.{no_limits}
use Rattle.block_list.specs.declared.status.Status.{Status}
use Rattle.block_list.specs.declared.status.Status.TheVariants.{NonTrimmed, BadSector, Finished}
use Rattle.block_list.specs.Status.{same}
use Rattle.block_list.specs.Map.{Has}
use Rattle.block_list.proofs.StretchLemmas.{equal_from_same}
use Rattle.faulty_source.specs.Ends.{is_before}
use Rattle.rescue_domain.specs.Testing.{finished_front}
use Rattle.rescue_domain.proofs.PlaceLemmas.{whole_from}
use Rattle.rescue_domain.proofs.TestingLemmas.{front_is}
use Rattle.rescue_rules.specs.declared.phase.Phase.{Phase}
use Rattle.rescue_rules.specs.declared.phase.Phase.TheVariants.{Trimming}
use Rattle.rescue_rules.specs.Setting.{Setting, IsSensible}
use Rattle.rescue_rules.specs.Passes.{Pass, taken, is_up}
use Rattle.rescue_rules.specs.Machine.{Machine, pass_of, IsRequest, has_request}
use Rattle.rescue_rules.specs.MachineLaws.{IsInOrder, StepsBy, AsksFor}
use Rattle.rescue_rules.specs.Step.{Event, copies, trims, is_copying, is_trimming, over_after, rest_status, step, limit_met}
use Rattle.rescue_rules.specs.Moves.{begun, ended, at_next, ready, move_of, moves, state_after, IsMove, IsRun, no_pass_left, has_ended}
use Rattle.rescue_rules.specs.Events.{reads_of}
use Rattle.rescue_rules.proofs.LimitLemmas.{none_met}
use Rattle.rescue_rules.proofs.ReadyLemmas.{order_over, order_ready, ready_leads, stays_next}
use Rattle.rescue_rules.proofs.SearchLemmas.{request_found}
use Rattle.rescue_rules.proofs.StatusLemmas.{non_trimmed_stood, rest_is, wanted_taken}
use Rattle.rescue_rules.proofs.StepLemmas.{move_steps, request_asks, trims_is}
use Rattle.rescue_core.proofs.ChangeLemmas.{Kept, Missed, CutOff, Between, Stands, changes}
use Rattle.run_laws.proofs.CursorLemmas.{LiesAhead, asked_left, asked_past}
use Rattle.run_laws.proofs.OwedLemmas.{passes_are}
use Rattle.ddrescue_words.specs.declared.options.Options.{Options}
use Rattle.ddrescue_words.specs.Options.{sectors_of}
use Rattle.ddrescue_words.specs.Asking.{AreInLimits}
use Rattle.rescue_sample.specs.Line.{IsStill}
use Rattle.plan_source.specs.Lines.{planned}
use Rattle.rescue_plan.specs.Plan.{IsPlannedIn, plan_setting, plan_start, untried_map}
use Rattle.rescue_plan.specs.Laws.{PlanExists}

-- ---- counting

-- how many numbers below n pass a test
abbrev one_if : Bool → ℕ
one_if b = if b then 1 else 0

abbrev below : (ℕ → Bool) → ℕ → ℕ
below P zero = 0
below P (suc n) = one_if (P n) + below P n

one_few : (p q : Bool) → (q ≡ true → p ≡ true) → one_if q ≤ one_if p
one_few true true was = omega arith
one_few true false was = omega arith
one_few false false was = omega arith
one_few false true was = let off : false ≡ true = was refl in absurd (cc off)

one_most : (b : Bool) → one_if b ≤ 1
one_most true = omega arith
one_most false = omega arith

below_most : (P : ℕ → Bool) (n : ℕ) → below P n ≤ n
below_most P zero = omega arith
below_most P (suc n) = omega (arith, one_most (P n), below_most P n)

-- a test that passes no more numbers passes as few,
below_few : (P Q : ℕ → Bool) (n : ℕ) → ((x : ℕ) → Q x ≡ true → P x ≡ true) → below Q n ≤ below P n
below_few P Q zero was = omega arith
below_few P Q (suc n) was = omega (arith, one_few (P n) (Q n) (was n), below_few P Q n was)

-- and fewer, if there is one that it doesn't pass
below_fewer : (P Q : ℕ → Bool) (n p : ℕ) → ((x : ℕ) → Q x ≡ true → P x ≡ true) → p < n → P p ≡ true → Q p ≡ false
    → below Q n < below P n
below_fewer P Q zero p was less on off = absurd (omega (arith, less))
below_fewer P Q (suc n) p was less on off =
    ⊎_elim
    (λ (under : p < n).
    omega (arith, one_few (P n) (Q n) (was n), below_fewer P Q n p was under on off))
    (λ (top : n ≤ p).
    let here : p ≡ n = omega (arith, less, top) in
    let one : one_if (P n) ≡ 1 = ap one_if (subst (λ (k : ℕ). P k ≡ true) here on) in
    let none : one_if (Q n) ≡ 0 = ap one_if (subst (λ (k : ℕ). Q k ≡ false) here off) in
    omega (arith, one, none, below_few P Q n was))
    (cases_lt p n)

-- ---- how much a state may still ask for

-- a status is that of what is left to trim
abbrev to_trim : Option Status → Bool
to_trim None = false
to_trim (Some t) = same t NonTrimmed

trim_has : (o : Option Status) → to_trim o ≡ true → o ≡ Some NonTrimmed
trim_has None is = absurd (cc is)
trim_has (Some t) is = ap (λ (u : Status). Some u) (equal_from_same t NonTrimmed is)

-- how far a cursor has to go
abbrev way : (up : Bool) → (len cursor : ℕ) → ℕ
way true len cursor = len - cursor
way false len cursor = min cursor len

-- what a pass has left: in trimming the non-trimmed positions, and else the way of its cursor
abbrev left_in : Setting → Machine → ℕ
left_in s m =
    if is_trimming m then below (λ x. to_trim (slice_get m.map x)) (length m.map)
    else way (is_up s (pass_of m)) (length m.map) m.progress.cursor

-- with all of the map for each pass after it
abbrev left_after : Setting → Machine → ℕ
left_after s m = length m.passes * (length m.map + 1) + left_in s m

way_most : (up : Bool) (len cursor : ℕ) → way up len cursor ≤ len
way_most true len cursor = omega arith
way_most false len cursor = omega arith

left_most : (s : Setting) (m : Machine) → left_in s m ≤ length m.map
left_most s m =
    cond_both (is_trimming m) (below (λ x. to_trim (slice_get m.map x)) (length m.map))
    (way (is_up s (pass_of m)) (length m.map) m.progress.cursor) (λ (n : ℕ). n ≤ length m.map)
    (λ on. below_most (λ x. to_trim (slice_get m.map x)) (length m.map))
    (λ off. way_most (is_up s (pass_of m)) (length m.map) m.progress.cursor)

-- ---- going on over passes

next_few : (s : Setting) (m : Machine) (ps : List Pass) → length (at_next s m ps).passes ≤ length ps
next_few s m [] = omega arith
next_few s m (p ∷ ps) =
    cond_both (has_request s (begun s m p ps)) (begun s m p ps) (at_next s m ps) (λ (k : Machine). length k.passes ≤ suc (length ps))
    (λ on. omega arith) (λ off. omega (arith, next_few s m ps))

drop_one : (ps : List Pass) → 0 < length (drop 1 ps) → suc (length (drop 1 ps)) ≤ length ps
drop_one [] some = absurd (omega (arith, some))
drop_one (p ∷ ps) some = omega arith

one_more : (k b : ℕ) → suc k * b ≡ b + k * b
one_more k b = omega arith

-- a state with fewer passes has less left
later_less : (s : Setting) (m k : Machine) → length k.map ≡ length m.map → suc (length k.passes) ≤ length m.passes
    → left_after s k ≤ left_after s m
later_less s m k size fewer =
    let n : ℕ = length m.map + 1 in
    let most : left_in s k ≤ length m.map = omega (arith, left_most s k, size) in
    let same_n : length k.passes * (length k.map + 1) ≡ length k.passes * n =
    ap (λ (l : ℕ). length k.passes * (l + 1)) size in
    let more : suc (length k.passes) * n ≤ length m.passes * n = mul-le-mul_right n fewer in
    let one : suc (length k.passes) * n ≡ n + length k.passes * n = one_more (length k.passes) n in
    omega (arith, most, same_n, more, one)

ready_few : (s : Setting) (m : Machine) → has_request s (ready s m) ≡ true → left_after s (ready s m) ≤ left_after s m
ready_few s m =
    cond_both (has_request s m) m (at_next s m (drop 1 m.passes))
    (λ (k : Machine). has_request s k ≡ true → left_after s k ≤ left_after s m)
    (λ on has. omega arith)
    (λ off has.
    let k : Machine = at_next s m (drop 1 m.passes) in
    let some : 0 < length k.passes = subst (λ (ps : List Pass). 0 < length ps) (sym (passes_are s k has).1) (omega arith) in
    let few : length k.passes ≤ length (drop 1 m.passes) = next_few s m (drop 1 m.passes) in
    later_less s m k (ap length (stays_next s m (drop 1 m.passes)).map)
    (omega (arith, few, drop_one m.passes (omega (arith, some, few)))))

-- ---- a read

-- the cursor's way gets shorter
way_less : (up : Bool) (len c d p : ℕ) → p < len → LiesAhead up c p → (LiesAhead up d p → ⊥) → way up len d < way up len c
way_less true len c d p within at past =
    let from : c ≤ p = at in
    ⊎_elim (λ (later : p < d). omega (arith, within, from, later)) (λ (early : d ≤ p). absurd (past early)) (cases_lt p d)
way_less false len c d p within at past =
    let to : p < c = at in
    ⊎_elim (λ (early : p < d). absurd (past early)) (λ (later : d ≤ p). omega (arith, within, to, later)) (cases_lt p d)

never_copies : (phase : Phase) → trims phase ≡ true → copies phase ≡ true → ⊥
never_copies phase on copying =
    let e : copies Trimming ≡ true = subst (λ (p : Phase). copies p ≡ true) (trims_is phase on) copying in absurd (cc e)

module _ (s : Setting) (ok : IsSensible s) (m : Machine) (e : Event) (order : IsInOrder s m)
    (request : IsRequest s m e.reading.pos (e.reading.pos + e.reading.asked))
    (few : length e.reading.given ≤ e.reading.asked) (on : e.reading.ended ≡ false) where
  abbrev p : ℕ
  p = e.reading.pos

  abbrev after : Machine
  after = step s m e

  by : StepsBy s m e
  by = move_steps s m e ok order request few

  asks : AsksFor e.reading p
  asks = record { from = omega arith; to = omega (arith, by.some) }

  before : is_before (over_after m e.reading) p ≡ true
  before =
      ap (λ (over : Option ℕ). is_before over p) (cond-false e.reading.ended _ m.tally.over on)
      ∙ (asked_left s m e p request by asks).before

  -- a pass by the cursor leaves what it asked for
  way_shorter : is_trimming m ≡ false
      → way (is_up s (pass_of m)) (length after.map) after.progress.cursor
      < way (is_up s (pass_of m)) (length m.map) m.progress.cursor
  way_shorter off =
      let up : Bool = is_up s (pass_of m) in
      let less : way up (length m.map) after.progress.cursor < way up (length m.map) m.progress.cursor =
      way_less up (length m.map) m.progress.cursor after.progress.cursor p (omega (arith, by.there, by.some))
      ((asked_left s m e p request by asks).ahead off)
      (λ ahead. asked_past s m e p off by asks (record { before = before; ahead = λ again. ahead })) in
      subst (λ (n : ℕ). way up n after.progress.cursor < way up (length m.map) m.progress.cursor) (sym by.size) less

  -- and trimming leaves no position to trim that it asked for
  gone : is_trimming m ≡ true → Has after.map NonTrimmed p → ⊥
  gone trimming has =
      elim (changes s m e p ok order request by) [
        | Kept asked done ↦ let is : NonTrimmed ≡ Finished = same_Some NonTrimmed Finished (sym has ∙ done) in absurd (cc is)
        | Missed asked failed size rest ↦
            let is : NonTrimmed ≡ rest_status s m size = same_Some NonTrimmed (rest_status s m size) (sym has ∙ rest) in
            ⊎_elim
            (λ (copying : (rest_status s m size ≡ NonTrimmed) × (is_copying m ≡ true)).
            never_copies (pass_of m).phase trimming copying.1)
            (λ (bad : rest_status s m size ≡ BadSector). let never : NonTrimmed ≡ BadSector = is ∙ bad in absurd (cc never))
            (rest_is s m size)
        | CutOff asked far same ↦ far before
        | Between apart trimmed was now ↦ apart asks
        | Stands apart same ↦ apart asks
      ]

  fewer_trims : is_trimming m ≡ true
      → below (λ x. to_trim (slice_get after.map x)) (length after.map) < below (λ x. to_trim (slice_get m.map x)) (length m.map)
  fewer_trims trimming =
      let P : ℕ → Bool = λ x. to_trim (slice_get m.map x) in
      let Q : ℕ → Bool = λ x. to_trim (slice_get after.map x) in
      let has : Has m.map NonTrimmed p =
      subst (λ (phase : Phase). Has m.map (taken phase) p) (trims_is (pass_of m).phase trimming)
      (wanted_taken s m p (by.wanted p asks.from asks.to)) in
      let less : below Q (length m.map) < below P (length m.map) =
      below_fewer P Q (length m.map) p
      (λ x is. ⊎_elim (λ (was : Has m.map NonTrimmed x). ap to_trim was)
      (λ (copying : is_copying m ≡ true). absurd (never_copies (pass_of m).phase trimming copying))
      (non_trimmed_stood s m e.reading x (trim_has (slice_get after.map x) is)))
      (omega (arith, by.there, by.some))
      (ap to_trim has)
      (false_from_ne_true (Q p) (λ is. gone trimming (trim_has (slice_get after.map p) is))) in
      subst (λ (n : ℕ). below Q n < below P (length m.map)) (sym by.size) less

  -- so less is left
  left_less : left_after s after < left_after s m
  left_less =
      let P : ℕ = below (λ x. to_trim (slice_get m.map x)) (length m.map) in
      let Q : ℕ = below (λ x. to_trim (slice_get after.map x)) (length after.map) in
      let v : ℕ = way (is_up s (pass_of m)) (length m.map) m.progress.cursor in
      let w : ℕ = way (is_up s (pass_of m)) (length after.map) after.progress.cursor in
      let less : left_in s after < left_in s m =
      ⊎_elim
      (λ (trimming : is_trimming m ≡ true).
      let here : left_in s m ≡ P = cond-true (is_trimming m) P v trimming in
      let there : left_in s after ≡ Q = cond-true (is_trimming m) Q w trimming in
      omega (arith, here, there, fewer_trims trimming))
      (λ (off : is_trimming m ≡ false).
      let here : left_in s m ≡ v = cond-false (is_trimming m) P v off in
      let there : left_in s after ≡ w = cond-false (is_trimming m) Q w off in
      omega (arith, here, there, way_shorter off))
      (cases_Bool (is_trimming m)) in
      let same_n : length m.passes * (length after.map + 1) ≡ length m.passes * (length m.map + 1) =
      ap (λ (n : ℕ). length m.passes * (n + 1)) by.size in
      omega (arith, less, same_n)

  order_after : IsInOrder s after
  order_after = by.order

-- ---- a run to its end

-- the event in which a request gives what a test map has finished
abbrev planned_event : (test : List Status) → (p size : ℕ) → Event
planned_event test p size = record {
  reading = record { pos = p; asked = size; given = replicate (finished_front test p size) 0; ended = false };
  before = 0;
  after = 0;
}

-- a run from a state in which each read gives what is finished, up to the end
record Goes (s : Setting) (test : List Status) (m : Machine) : Type 0 where
  events : List Event
  still : All IsStill events
  run : IsRun s m events
  seen : All (IsPlannedIn test) (reads_of events)
  over : has_ended s (state_after s m events) ≡ true

module _ (s : Setting) (ok : IsSensible s) (free : s.limits ≡ no_limits) (test : List Status) where
  ends_here : (m : Machine) → ready s m ≡ ended m → Goes s test m
  ends_here m is = record {
    events = [];
    still = All-nil IsStill;
    run = record { each = All-nil (IsMove s) };
    seen = All-nil (IsPlannedIn test);
    over = and_from (no_pass_left (ready s m).passes) (is_none (limit_met s m))
        (ap (λ (k : Machine). no_pass_left k.passes) is) (ap is_none (none_met s m free));
  }

  goes_more : (m : Machine) (e : Event) → IsStill e → IsMove s (move_of s m e) → IsPlannedIn test e.reading
      → Goes s test (move_of s m e).after → Goes s test m
  goes_more m e still move seen g = record {
    events = e ∷ g.events;
    still = All-cons IsStill e g.events still g.still;
    run = record { each = All-cons (IsMove s) (move_of s m e) (moves s (move_of s m e).after g.events) move g.run.each };
    seen = All-cons (IsPlannedIn test) e.reading (reads_of g.events) seen g.seen;
    over = g.over;
  }

  -- with as many steps to go as the state may still make
  goes : (n : ℕ) (m : Machine) → IsInOrder s m → left_after s m < n → Goes s test m
  goes zero m order less = absurd (omega (arith, less))
  goes (suc n) m order less =
      ⊎_elim
      (λ (on : has_request s (ready s m) ≡ true).
      let k : Machine = ready s m in
      let f : (p q : ℕ) × IsRequest s k p q = request_found s k on in
      let p : ℕ = f.0 in
      let size : ℕ = f.1 - p in
      let whole : p + size ≡ f.1 = omega (arith, (request_asks s ok k p f.1 f.2).some) in
      let request : IsRequest s k p (p + size) = subst (λ (q : ℕ). IsRequest s k p q) (sym whole) f.2 in
      let e : Event = planned_event test p size in
      let gives : length e.reading.given ≡ finished_front test p size = length-replicate (finished_front test p size) 0 in
      let few : length e.reading.given ≤ size = omega (arith, gives, (front_is test p size).few) in
      let in_order : IsInOrder s k = order_ready s m order in
      goes_more m e (record { before = refl; after = refl })
      (record { request = request; few = few; within = none_met s k free })
      (record { given = gives; ended = refl })
      (goes n (move_of s m e).after (order_after s ok k e in_order request few refl)
      (omega (arith, less, ready_few s m on, left_less s ok k e in_order request few refl))))
      (λ (is : ready s m ≡ ended m). ends_here m is)
      (ready_leads s m)

-- what options ask for is sensible
sensible_asked : (o : Options) (n : ℕ) → AreInLimits o → IsSensible (plan_setting o n)
sensible_asked o n limits = record {
  sector = limits.sector;
  sectors = sectors_of o o.cluster_sectors;
  some = limits.sectors;
  cluster = refl;
  from = λ x inside. whole_from o.input_position o.size n x inside;
  retries = omega (arith, limits.retries);
}

pub plan_exists : PlanExists
plan_exists o n test limits free =
    let s : Setting = plan_setting o n in
    let m : Machine = plan_start s n in
    let g : Goes s test m = goes s (sensible_asked o n limits) free test (suc (left_after s m)) m
    (order_over s (untried_map n) None 0) (omega arith) in (
      map planned (reads_of g.events),
      record {
        begins = record { events = g.events; still = g.still; run = g.run; seen = g.seen; are = refl };
        ended = g.over;
      },
    )
