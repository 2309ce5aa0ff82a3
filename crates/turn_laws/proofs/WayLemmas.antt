-- A run that is under way stays so.
use Rattle.std.proofs.Common.{◌≡◌, ℕ, ◌+◌, ◌<◌, ◌≤◌, Bool, true, false, ◌&&◌, nat_le, nat_lt, Contains, if◌then◌else◌, List, [], ◌∷◌, ◌++◌, drop, refl, sym, ap, subst, ◌∙◌, arith, append_assoc, ⊎_elim}
use Rattle.std.specs.List.{slice_index_or}
use Rattle.std.proofs.lemmas.Bool.{cond_both, leb-true, ltb-true, le-leb, lt-ltb, true≢false}
use Rattle.std.proofs.lemmas.List.Elements.{All-contains, Contains-append_cases, Contains-append_right}
use Rattle.std.proofs.lemmas.Option.{same_Some, slice_get_within}
use Rattle.block_list.specs.declared.status.Status.TheVariants.{NonTried, NonTrimmed, NonScraped, BadSector, Finished}
use Rattle.block_list.specs.Map.{Has}
use Rattle.faulty_source.specs.Ends.{is_before}
use Rattle.rescue_rules.specs.declared.stop.TrimMode.{TrimMode}
use Rattle.rescue_rules.specs.declared.tally.Tally.{Tally}
use Rattle.rescue_rules.specs.declared.phase.Phase.{Phase}
use Rattle.rescue_rules.specs.declared.phase.Phase.TheVariants.{Copying, Trimming, Scraping, Retrying}
use Rattle.rescue_rules.specs.Setting.{Setting}
use Rattle.rescue_rules.specs.Passes.{Pass, taken, is_up, numbered, copying_passes, passes_in, passes_after, passes_from}
use Rattle.rescue_rules.specs.Machine.{Machine, pass_of, is_live, IsWanted, search_in, search_of, is_ahead, has_request}
use Rattle.rescue_rules.specs.MachineLaws.{IsInOrder, AsksFor}
use Rattle.rescue_rules.specs.Step.{Event, trims, is_copying, is_trimming, rest_status}
use Rattle.rescue_rules.specs.Moves.{begun, at_next, ready, move_of}
use Rattle.rescue_rules.proofs.MoveLemmas.{run_first, run_rest}
use Rattle.rescue_rules.proofs.OverLemmas.{live_before, live_was}
use Rattle.rescue_rules.proofs.ReadyLemmas.{order_begun, stays_ready}
use Rattle.rescue_rules.proofs.SearchLemmas.{request_seen}
use Rattle.rescue_rules.proofs.StatusLemmas.{rest_is}
use Rattle.rescue_core.proofs.ChangeLemmas.{Kept, Missed, CutOff, Between, Stands}
use Rattle.run_laws.proofs.CursorLemmas.{LiesAhead, JumpsNever, left_on, left_begun, left_seen}
use Rattle.run_laws.proofs.OrderLemmas.{order, Follows, AreOrdered, follows_from, ordered_from, contains_cases, has_trimming, has_scraping}
use Rattle.run_laws.proofs.OwedLemmas.{Owes, Now as OwedNow, Later as OwedLater, owes_ready, wanted_in, passes_are}
use Rattle.run_laws.proofs.RunLemmas.{MayRun, Moves, moves_by, has_unready}
use Rattle.run_laws.proofs.FailLemmas.{copies_first, trims_second}
use Rattle.turn_laws.specs.UnderWay.{StillComes, Now, Later, IsToCome, IsUnderWay}
use Rattle.turn_laws.specs.EndLaws.{RunStaysUnderWay, NextPassIsUnderWay}

-- All phases but trimming search from the cursor on.
ahead_in : (s : Setting) (m : Machine) (phase : Phase) (mode : TrimMode) (x : ℕ) → trims phase ≡ false
    → is_ahead (search_in s m phase mode) x ≡ (if is_up s (pass_of m) then nat_le m.progress.cursor x else nat_lt x m.progress.cursor)
ahead_in s m Trimming mode x off = absurd (cc)
ahead_in s m _ mode x off = refl

ahead_is : (s : Setting) (m : Machine) (x : ℕ) → is_trimming m ≡ false
    → is_ahead (search_of s m) x ≡ (if is_up s (pass_of m) then nat_le m.progress.cursor x else nat_lt x m.progress.cursor)
ahead_is s m x off = ahead_in s m (pass_of m).phase m.progress.mode x off

lies_by : (up : Bool) (cursor x : ℕ) → (if up then nat_le cursor x else nat_lt x cursor) ≡ true → LiesAhead up cursor x
lies_by true cursor x is = leb-true cursor x is
lies_by false cursor x is = ltb-true x cursor is

ahead_by : (up : Bool) (cursor x : ℕ) → LiesAhead up cursor x → (if up then nat_le cursor x else nat_lt x cursor) ≡ true
ahead_by true cursor x lies = le-leb cursor x lies
ahead_by false cursor x lies = lt-ltb x cursor lies

-- what a pass still comes to, it owes
pub owes_by : (s : Setting) (m : Machine) (p : Pass) (x : ℕ) → is_before m.tally.over x ≡ true → StillComes s m p x
    → Owes s m p x
owes_by s m p x before (Now ps is ahead) =
    OwedNow ps is (record {
      before = before;
      ahead = λ off. lies_by (is_up s (pass_of m)) m.progress.cursor x (sym (ahead_is s m x off) ∙ ahead off);
    })
owes_by s m p x before (Later has) = OwedLater has

pub comes_by : (s : Setting) (m : Machine) (p : Pass) (x : ℕ) → Owes s m p x → StillComes s m p x
comes_by s m p x (OwedNow ps is left) =
    Now ps is (λ off. ahead_is s m x off ∙ ahead_by (is_up s (pass_of m)) m.progress.cursor x (left.ahead off))
comes_by s m p x (OwedLater has) = Later has

-- Its passes follow one another,
ordered_rest : (past ps : List Pass) → AreOrdered (past ++ ps) → AreOrdered ps
ordered_rest [] ps ordered = ordered
ordered_rest (p ∷ past) ps ordered = ordered_rest past ps ordered.1

ordered_whole : (s : Setting) (m : Machine) (w : IsUnderWay s m) → AreOrdered (w.past ++ m.passes)
ordered_whole s m w = subst AreOrdered (sym w.passes) (ordered_from s Copying w.first)

pub may_run : (s : Setting) (m : Machine) → IsUnderWay s m → MayRun s m
may_run s m w = record { order = w.order; passes = ordered_rest w.past m.passes (ordered_whole s m w) }

-- and those that it has come past;
follows_past : (past ps : List Pass) (g p : Pass) → AreOrdered (past ++ ps) → Contains past g → Contains ps p
    → Follows g p
follows_past [] ps g p ordered has there = absurd (omega (arith, has.1))
follows_past (q ∷ past) ps g p ordered has there =
    ⊎_elim
    (λ (here : q ≡ g). subst (λ (r : Pass). Follows r p) here
    (All-contains (Follows q) (past ++ ps) p ordered.0 (Contains-append_right past ps p there)))
    (λ (later : Contains past g). follows_past past ps g p ordered.1 later there)
    (contains_cases q past g has)

-- so the passes of later phases are still there.
later_there : (s : Setting) (m : Machine) (w : IsUnderWay s m) (p : Pass) (ps : List Pass) (q : Pass)
    → m.passes ≡ p ∷ ps → order p.phase < order q.phase → Contains (passes_after s Copying) q
    → Contains (drop 1 m.passes) q
later_there s m w p ps q is less there =
    let whole : Contains (w.past ++ m.passes) q
    = subst (λ (qs : List Pass). Contains qs q) (sym w.passes)
    (Contains-append_right (passes_in s Copying w.first) (passes_after s Copying) q there) in
    let here : Contains m.passes p = subst (λ (qs : List Pass). Contains qs p) (sym is) (0, omega arith, refl) in
    ⊎_elim
    (λ (gone : Contains w.past q).
    let back : order q.phase ≤ order p.phase
    = follows_from q p (follows_past w.past m.passes q p (ordered_whole s m w) gone here) in
    absurd (omega (arith, back, less)))
    (λ (has : Contains m.passes q). ⊎_elim
    (λ (same : p ≡ q). absurd (omega (arith, less, ap (λ (r : Pass). order r.phase) same)))
    (λ (rest : Contains ps q). subst (λ (qs : List Pass). Contains (drop 1 qs) q) (sym is) rest)
    (contains_cases p ps q (subst (λ (qs : List Pass). Contains qs q) is has)))
    (Contains-append_cases w.past m.passes q whole)

-- Going on over passes it comes past them,
next_past : (s : Setting) (m : Machine) (ps past whole : List Pass) → past ++ ps ≡ whole
    → (gone : List Pass) × (gone ++ (at_next s m ps).passes ≡ whole)
next_past s m [] past whole is = (past, is)
next_past s m (p ∷ ps) past whole is =
    cond_both (has_request s (begun s m p ps)) (begun s m p ps) (at_next s m ps)
    (λ (k : Machine). (gone : List Pass) × (gone ++ k.passes ≡ whole))
    (λ on. (past, is)) (λ off. next_past s m ps (past ++ p ∷ []) whole (append_assoc past (p ∷ []) ps ∙ is))

drop_past : (ps past whole : List Pass) → past ++ ps ≡ whole → (gone : List Pass) × (gone ++ drop 1 ps ≡ whole)
drop_past [] past whole is = (past, is)
drop_past (p ∷ ps) past whole is = (past ++ p ∷ [], append_assoc past (p ∷ []) ps ∙ is)

ready_past : (s : Setting) (m : Machine) (past whole : List Pass) → past ++ m.passes ≡ whole
    → (gone : List Pass) × (gone ++ (ready s m).passes ≡ whole)
ready_past s m past whole is =
    let next : (gone : List Pass) × (gone ++ drop 1 m.passes ≡ whole) = drop_past m.passes past whole is in
    cond_both (has_request s m) m (at_next s m (drop 1 m.passes))
    (λ (k : Machine). (gone : List Pass) × (gone ++ k.passes ≡ whole))
    (λ on. (past, is)) (λ off. next_past s m (drop 1 m.passes) next.0 whole next.1)

-- and what was to come is so still.
to_come_ready : (s : Setting) (m : Machine) (p : Pass) → MayRun s m → IsToCome s m p → IsToCome s (ready s m) p
to_come_ready s m p may come x live has =
    let was : Has m.map (taken p.phase) x = has_unready s m (taken p.phase) x has in
    let inside : is_live s m x ≡ true
    = sym (ap (λ (t : Tally). s.domain x && is_before t.over x) (stays_ready s m).tally) ∙ live in
    comes_by s (ready s m) p x
    (owes_ready s m p x may.order may.passes (slice_get_within m.map x (taken p.phase) was) inside (λ all. was)
    (owes_by s m p x (live_before s m x inside) (come x inside was)))

ready_under_way : (s : Setting) (m : Machine) → IsUnderWay s m → (order : IsInOrder s (ready s m))
    → IsUnderWay s (ready s m)
ready_under_way s m w order =
    let may : MayRun s m = may_run s m w in
    let past : (gone : List Pass) × (gone ++ (ready s m).passes ≡ passes_from s Copying w.first)
    = ready_past s m w.past (passes_from s Copying w.first) w.passes in
    record {
      order = order;
      first = w.first;
      past = past.0;
      passes = past.1;
      tried = to_come_ready s m (numbered Copying copying_passes) may w.tried;
      trimmed = λ on. to_come_ready s m (numbered Trimming 1) may (w.trimmed on);
      scraped = λ on. to_come_ready s m (numbered Scraping 1) may (w.scraped on);
    }

-- A read leaves to come what it didn't ask for,
stands_to_come : (s : Setting) (m : Machine) (e : Event) (p : Pass) (x : ℕ) → Moves s m e → JumpsNever p
    → IsToCome s (ready s m) p → is_live s (move_of s m e).after x ≡ true → (AsksFor e.reading x → ⊥)
    → Has (ready s m).map (taken p.phase) x → StillComes s (move_of s m e).after p x
stands_to_come s m e p x by never come live apart has =
    let k : Machine = ready s m in
    let n : Machine = (move_of s m e).after in
    let was : is_live s k x ≡ true = live_was s k n e.reading x refl live in
    elim (owes_by s k p x (live_before s k x was) (come x was has)) [
      | OwedNow ps is left ↦
          let same : pass_of k ≡ p = ap (λ (qs : List Pass). slice_index_or qs 0 (numbered Copying 1)) is in
          let wanted : IsWanted s k x = wanted_in s k p ps x is was has in
          comes_by s n p x (OwedNow ps is (left_on s k e x (subst JumpsNever (sym same) never) by.request by.few wanted
          (live_before s n x live) apart left))
      | OwedLater has ↦ Later has
    ]

left_later : (s : Setting) (m : Machine) (e : Event) (q : Pass) (x : ℕ) → Moves s m e → IsUnderWay s (ready s m)
    → order (pass_of (ready s m)).phase < order q.phase → Contains (passes_after s Copying) q
    → StillComes s (move_of s m e).after q x
left_later s m e q x by w less there =
    let k : Machine = ready s m in
    let on : has_request s k ≡ true
    = request_seen s k e.reading.pos (e.reading.pos + e.reading.asked) by.request in
    let are : (ps : List Pass) × (k.passes ≡ pass_of k ∷ ps) = passes_are s k on in
    Later (later_there s k w (pass_of k) are.0 q are.1 less there)

never : (number : ℕ) (phase : Phase) → (phase ≡ Copying → 4 < number) → JumpsNever (numbered phase number)
never number phase last = record { last = last }

tried_on : (s : Setting) (m : Machine) (e : Event) → Moves s m e → IsUnderWay s (ready s m)
    → IsToCome s (move_of s m e).after (numbered Copying copying_passes)
tried_on s m e by w x live has =
    let k : Machine = ready s m in
    elim (by.changes x) [
      | Kept asks done ↦ let no : NonTried ≡ Finished = same_Some NonTried Finished (sym has ∙ done) in absurd (cc)
      | Missed asks part size missed ↦
          let is : NonTried ≡ rest_status s k size = same_Some NonTried (rest_status s k size) (sym has ∙ missed) in
          ⊎_elim
          (λ (trim : (rest_status s k size ≡ NonTrimmed) × (is_copying k ≡ true)).
          let no : NonTried ≡ NonTrimmed = is ∙ trim.0 in absurd (cc))
          (λ (bad : rest_status s k size ≡ BadSector). let no : NonTried ≡ BadSector = is ∙ bad in absurd (cc))
          (rest_is s k size)
      | CutOff asks gone same ↦ absurd (gone (live_before s (move_of s m e).after x live))
      | Between apart on was scraps ↦
          let no : NonTried ≡ NonScraped = same_Some NonTried NonScraped (sym has ∙ scraps) in absurd (cc)
      | Stands apart same ↦
          stands_to_come s m e (numbered Copying copying_passes) x by (never 5 Copying (λ is. omega arith)) w.tried live
          apart (sym same ∙ has)
    ]

trimmed_on : (s : Setting) (m : Machine) (e : Event) → Moves s m e → IsUnderWay s (ready s m) → s.passes.trims ≡ true
    → IsToCome s (move_of s m e).after (numbered Trimming 1)
trimmed_on s m e by w trim x live has =
    let k : Machine = ready s m in
    elim (by.changes x) [
      | Kept asks done ↦ let no : NonTrimmed ≡ Finished = same_Some NonTrimmed Finished (sym has ∙ done) in absurd (cc)
      | Missed asks part size missed ↦
          let is : NonTrimmed ≡ rest_status s k size = same_Some NonTrimmed (rest_status s k size) (sym has ∙ missed) in
          ⊎_elim
          (λ (here : (rest_status s k size ≡ NonTrimmed) × (is_copying k ≡ true)).
          left_later s m e (numbered Trimming 1) x by w
          (omega (arith, copies_first (pass_of k).phase here.1)) (has_trimming s trim))
          (λ (bad : rest_status s k size ≡ BadSector). let no : NonTrimmed ≡ BadSector = is ∙ bad in absurd (cc))
          (rest_is s k size)
      | CutOff asks gone same ↦ absurd (gone (live_before s (move_of s m e).after x live))
      | Between apart on was scraps ↦
          let no : NonTrimmed ≡ NonScraped = same_Some NonTrimmed NonScraped (sym has ∙ scraps) in absurd (cc)
      | Stands apart same ↦
          stands_to_come s m e (numbered Trimming 1) x by (never 1 Trimming (λ is. absurd (cc))) (w.trimmed trim) live
          apart (sym same ∙ has)
    ]

scraped_on : (s : Setting) (m : Machine) (e : Event) → Moves s m e → IsUnderWay s (ready s m) → s.passes.scrapes ≡ true
    → IsToCome s (move_of s m e).after (numbered Scraping 1)
scraped_on s m e by w scrape x live has =
    let k : Machine = ready s m in
    elim (by.changes x) [
      | Kept asks done ↦ let no : NonScraped ≡ Finished = same_Some NonScraped Finished (sym has ∙ done) in absurd (cc)
      | Missed asks part size missed ↦
          let is : NonScraped ≡ rest_status s k size = same_Some NonScraped (rest_status s k size) (sym has ∙ missed) in
          ⊎_elim
          (λ (trim : (rest_status s k size ≡ NonTrimmed) × (is_copying k ≡ true)).
          let no : NonScraped ≡ NonTrimmed = is ∙ trim.0 in absurd (cc))
          (λ (bad : rest_status s k size ≡ BadSector). let no : NonScraped ≡ BadSector = is ∙ bad in absurd (cc))
          (rest_is s k size)
      | CutOff asks gone same ↦ absurd (gone (live_before s (move_of s m e).after x live))
      | Between apart on was scraps ↦
          left_later s m e (numbered Scraping 1) x by w
          (omega (arith, trims_second (pass_of k).phase on)) (has_scraping s scrape)
      | Stands apart same ↦
          stands_to_come s m e (numbered Scraping 1) x by (never 1 Scraping (λ is. absurd (cc))) (w.scraped scrape) live
          apart (sym same ∙ has)
    ]

move_under_way : (s : Setting) (m : Machine) (e : Event) → Moves s m e → IsUnderWay s m
    → IsUnderWay s (move_of s m e).after
move_under_way s m e by w =
    let k : IsUnderWay s (ready s m) = ready_under_way s m w by.before.order in
    record {
      order = by.after.order;
      first = k.first;
      past = k.past;
      passes = k.passes;
      tried = tried_on s m e by k;
      trimmed = λ on. trimmed_on s m e by k on;
      scraped = λ on. scraped_on s m e by k on;
    }

pub run_stays_under_way : RunStaysUnderWay
run_stays_under_way s m [] ok w run = w
run_stays_under_way s m (e ∷ es) ok w run =
    let by : Moves s m e = moves_by s m e ok (may_run s m w) (run_first s m e es run) in
    run_stays_under_way s (move_of s m e).after es ok (move_under_way s m e by w) (run_rest s m e es run)

-- What was to come is to come from the start of the next pass on.
to_come_next : (s : Setting) (m : Machine) (c p : Pass) (ps : List Pass) (q : Pass) → IsInOrder s m
    → has_request s m ≡ false → m.passes ≡ c ∷ p ∷ ps → IsToCome s m q → IsToCome s (begun s m p ps) q
to_come_next s m c p ps q order off are come x live has =
    let n : Machine = begun s m p ps in
    elim (owes_by s m q x (live_before s m x live) (come x live has)) [
      | OwedNow rest is left ↦
          let on : has_request s m ≡ true = left_seen s m x order (wanted_in s m q rest x is live has) left in
          absurd (true≢false (sym on ∙ off))
      | OwedLater later ↦
          ⊎_elim
          (λ (here : p ≡ q). comes_by s n q x (OwedNow ps (ap (λ (r : Pass). r ∷ ps) here)
          (left_begun s m p ps x (slice_get_within m.map x (taken q.phase) has) (live_before s m x live))))
          (λ (further : Contains ps q). Later further)
          (contains_cases p ps q
          (subst (λ (qs : List Pass). Contains qs q) (ap (λ (rs : List Pass). drop 1 rs) are) later))
    ]

pub next_pass_is_under_way : NextPassIsUnderWay
next_pass_is_under_way s m c p ps w off are = record {
  order = order_begun s m p ps;
  first = w.first;
  past = w.past ++ c ∷ [];
  passes = append_assoc w.past (c ∷ []) (p ∷ ps) ∙ ap (λ (qs : List Pass). w.past ++ qs) (sym are) ∙ w.passes;
  tried = to_come_next s m c p ps (numbered Copying copying_passes) w.order off are w.tried;
  trimmed = λ on. to_come_next s m c p ps (numbered Trimming 1) w.order off are (w.trimmed on);
  scraped = λ on. to_come_next s m c p ps (numbered Scraping 1) w.order off are (w.scraped on);
}
