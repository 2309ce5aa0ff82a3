-- A pass that a run has gone over leaves no position of the domain with its phase's status, but a bad one that failed
-- in it.
use Rattle.std.proofs.Common.{◌≡◌, ℕ, suc, ◌+◌, ◌<◌, ◌≤◌, true, All, Contains, List, [], ◌∷◌, length, refl, sym, ap, subst, ◌∙◌, arith, ⊎_elim}
use Rattle.std.specs.List.{slice_index_or}
use Rattle.std.proofs.lemmas.List.Elements.{All-cons, All-head, All-same}
use Rattle.std.proofs.lemmas.Option.{same_Some}
use Rattle.block_list.specs.declared.status.Status.{Status}
use Rattle.block_list.specs.declared.status.Status.TheVariants.{NonTried, NonTrimmed, NonScraped, BadSector, Finished}
use Rattle.block_list.specs.Map.{Has}
use Rattle.faulty_source.specs.Journal.{is_failed}
use Rattle.rescue_rules.specs.declared.phase.Phase.{Phase}
use Rattle.rescue_rules.specs.declared.phase.Phase.TheVariants.{Copying, Trimming, Retrying}
use Rattle.rescue_rules.specs.Setting.{Setting, IsSensible}
use Rattle.rescue_rules.specs.Passes.{Pass, taken, numbered}
use Rattle.rescue_rules.specs.Machine.{Machine, pass_of, is_live, IsWanted, has_request}
use Rattle.rescue_rules.specs.Step.{Event, copies, trims, is_copying, rest_status}
use Rattle.rescue_rules.specs.Moves.{Move, ready, no_pass_left, move_of, moves, state_after, IsRun}
use Rattle.rescue_rules.specs.MachineLaws.{AsksFor}
use Rattle.rescue_rules.proofs.MoveLemmas.{run_first, run_rest}
use Rattle.rescue_rules.proofs.OverLemmas.{live_before, live_was}
use Rattle.rescue_rules.proofs.SearchLemmas.{request_seen}
use Rattle.rescue_rules.proofs.ReadyLemmas.{stays_ready}
use Rattle.rescue_rules.proofs.StatusLemmas.{rest_is}
use Rattle.run_laws.specs.Endings.{FailedInPass}
use Rattle.rescue_core.proofs.ChangeLemmas.{Kept, Missed, CutOff, Between, Stands}
use Rattle.run_laws.proofs.CursorLemmas.{IsLeft, JumpsNever, left_on}
use Rattle.run_laws.proofs.OrderLemmas.{order, IsFrom, AreOrdered}
use Rattle.run_laws.proofs.OwedLemmas.{Owes, Now, Later, ready_all, all_from, owes_contains, owes_ready, wanted_in, passes_are}
use Rattle.run_laws.proofs.RunLemmas.{MayRun, Moves, moves_by, has_unready, asked_taken, run_live}

-- the phases' order
order_few : (phase : Phase) → order phase ≤ 3
order_few Copying = omega arith
order_few _ = omega arith

pub copies_first : (phase : Phase) → copies phase ≡ true → order phase ≡ 0
copies_first Copying is = refl
copies_first _ is = absurd (cc)

pub trims_second : (phase : Phase) → trims phase ≡ true → order phase ≡ 1
trims_second Trimming is = refl
trims_second _ is = absurd (cc)

retries_last : (phase : Phase) → order phase ≡ 3 → phase ≡ Retrying
retries_last Retrying is = refl
retries_last _ is = absurd (omega (arith, is))

-- and that of the statuses that they ask for
abbrev order_of : Status → ℕ
order_of NonTried = 0
order_of NonTrimmed = 1
order_of NonScraped = 2
order_of BadSector = 3
order_of Finished = 4

taken_order : (phase : Phase) → order_of (taken phase) ≡ order phase
taken_order Copying = refl
taken_order _ = refl

takes : (phase : Phase) (t : Status) → taken phase ≡ t → order phase ≡ order_of t
takes phase t is = sym (taken_order phase) ∙ ap order_of is

-- What has the status that a phase asks for had it before, in that phase and after it.
back_step : (s : Setting) (m : Machine) (e : Event) (p : Pass) (x : ℕ) → Moves s m e → IsFrom p (pass_of (ready s m))
    → Has (move_of s m e).after.map (taken p.phase) x → Has (ready s m).map (taken p.phase) x
back_step s m e p x by past has =
    let k : Machine = ready s m in
    let at : Phase = (pass_of k).phase in
    let now : Phase = p.phase in
    let few : order now ≤ order at = past in
    elim (by.changes x) [
      | Kept asks done ↦
          let n : order now ≡ 4 = takes now Finished (same_Some (taken now) Finished (sym has ∙ done)) in
          absurd (omega (arith, n, order_few now))
      | Missed asks part size rest ↦
          let is : taken now ≡ rest_status s k size = same_Some (taken now) (rest_status s k size) (sym has ∙ rest) in
          ⊎_elim
          (λ (trim : (rest_status s k size ≡ NonTrimmed) × (is_copying k ≡ true)).
          absurd (omega (arith, takes now NonTrimmed (is ∙ trim.0), copies_first at trim.1, few)))
          (λ (bad : rest_status s k size ≡ BadSector).
          let n : order now ≡ 3 = takes now BadSector (is ∙ bad) in
          let same : at ≡ now = retries_last at (omega (arith, n, few, order_few at)) ∙ sym (retries_last now n) in
          subst (λ (phase : Phase). Has k.map (taken phase) x) same (asked_taken s m e x by asks))
          (rest_is s k size)
      | CutOff asks gone same ↦ sym same ∙ has
      | Between apart trims was scraps ↦
          let n : order now ≡ 2 = takes now NonScraped (same_Some (taken now) NonScraped (sym has ∙ scraps)) in
          absurd (omega (arith, n, few, trims_second at trims))
      | Stands apart same ↦ sym same ∙ has
    ]

-- the present pass is one of those that are left
present : (P : Pass → Type 0) (s : Setting) (m : Machine) → has_request s m ≡ true → All P m.passes → P (pass_of m)
present P s m on all =
    let is : m.passes ≡ pass_of m ∷ (passes_are s m on).0 = (passes_are s m on).1 in
    All-head P (pass_of m) (passes_are s m on).0 (subst (All P) is all)

moves_on : (s : Setting) (m : Machine) (e : Event) → Moves s m e → has_request s (ready s m) ≡ true
moves_on s m e by = request_seen s (ready s m) e.reading.pos (e.reading.pos + e.reading.asked) by.request

back_run : (s : Setting) (m : Machine) (es : List Event) (p : Pass) (x : ℕ) → IsSensible s → MayRun s m → IsRun s m es
    → All (IsFrom p) (ready s m).passes → Has (state_after s m es).map (taken p.phase) x → Has m.map (taken p.phase) x
back_run s m [] p x ok may run all has = has
back_run s m (e ∷ es) p x ok may run all has =
    let n : Machine = (move_of s m e).after in
    let by : Moves s m e = moves_by s m e ok may (run_first s m e es run) in
    let later : Has n.map (taken p.phase) x =
    back_run s n es p x ok by.after (run_rest s m e es run) (ready_all (IsFrom p) s n all) has in
    has_unready s m (taken p.phase) x
    (back_step s m e p x by (present (IsFrom p) s (ready s m) (moves_on s m e by) all) later)

-- a read of a pass asked for a position and failed, and the pass is one of retrying
pub record Fails (p : Pass) (ms : List Move) (x : ℕ) : Type 0 where
  pub there : FailedInPass p ms x
  pub retries : p.phase ≡ Retrying

fails_later : (p : Pass) (v : Move) (ms : List Move) (x : ℕ) → Fails p ms x → Fails p (v ∷ ms) x
fails_later p v ms x f = record {
  there = record {
    number = suc f.there.number;
    move = f.there.move;
    asks = record { is = f.there.asks.is; asks = f.there.asks.asks };
    pass_is = f.there.pass_is;
    failed = f.there.failed;
  };
  retries = f.retries;
}

-- a read that asks for a position, fails and leaves it with its phase's status is one of retrying
missed_retries : (s : Setting) (m : Machine) (size : ℕ) → taken (pass_of m).phase ≡ rest_status s m size
    → (pass_of m).phase ≡ Retrying
missed_retries s m size is =
    let at : Phase = (pass_of m).phase in
    ⊎_elim
    (λ (trim : (rest_status s m size ≡ NonTrimmed) × (is_copying m ≡ true)).
    absurd (omega (arith, takes at NonTrimmed (is ∙ trim.0), copies_first at trim.1)))
    (λ (bad : rest_status s m size ≡ BadSector). retries_last at (takes at BadSector (is ∙ bad)))
    (rest_is s m size)

fails_here : (s : Setting) (m : Machine) (e : Event) (es : List Event) (x size : ℕ) → AsksFor e.reading x
    → is_failed e.reading ≡ true → taken (pass_of (ready s m)).phase ≡ rest_status s (ready s m) size
    → Fails (pass_of (ready s m)) (moves s m (e ∷ es)) x
fails_here s m e es x size asks part is = record {
  there = record {
    number = 0;
    move = move_of s m e;
    asks = record { is = refl; asks = asks };
    pass_is = refl;
    failed = part;
  };
  retries = missed_retries s (ready s m) size is;
}

-- an event of the pass itself
now_fails : (s : Setting) (m : Machine) (e : Event) (es : List Event) (ps : List Pass) (x : ℕ) → Moves s m e
    → JumpsNever (pass_of (ready s m)) → (ready s m).passes ≡ pass_of (ready s m) ∷ ps
    → is_live s (move_of s m e).after x ≡ true → IsLeft s (ready s m) x → Has (move_of s m e).after.map (taken (pass_of (ready s m)).phase) x
    → (Owes s (move_of s m e).after (pass_of (ready s m)) x → Fails (pass_of (ready s m))
    (moves s (move_of s m e).after es) x)
    → Fails (pass_of (ready s m)) (moves s m (e ∷ es)) x
now_fails s m e es ps x by never is live left has rest =
    let k : Machine = ready s m in
    let n : Machine = (move_of s m e).after in
    let p : Pass = pass_of k in
    let had : Has k.map (taken p.phase) x = back_step s m e p x by (omega arith) has in
    let was : is_live s k x ≡ true = live_was s k n e.reading x refl live in
    let wanted : IsWanted s k x = wanted_in s k p ps x is was had in
    let later : (AsksFor e.reading x → ⊥) → Fails p (moves s m (e ∷ es)) x =
    λ apart. fails_later p (move_of s m e) (moves s n es) x
    (rest (Now ps is (left_on s k e x never by.request by.few wanted (live_before s n x live) apart left))) in
    elim (by.changes x) [
      | Kept asks done ↦
          let four : order p.phase ≡ 4 = takes p.phase Finished (same_Some (taken p.phase) Finished (sym has ∙ done)) in
          absurd (omega (arith, four, order_few p.phase))
      | Missed asks part size missed ↦
          fails_here s m e es x size asks part (same_Some (taken p.phase) (rest_status s k size) (sym has ∙ missed))
      | CutOff asks gone same ↦ absurd (gone (live_before s n x live))
      | Between apart trims was scraps ↦ later apart
      | Stands apart same ↦ later apart
    ]

now_at : (s : Setting) (m : Machine) (e : Event) (es : List Event) (p : Pass) (ps : List Pass) (x : ℕ) → Moves s m e
    → JumpsNever p → (ready s m).passes ≡ p ∷ ps → is_live s (move_of s m e).after x ≡ true → IsLeft s (ready s m) x
    → Has (move_of s m e).after.map (taken p.phase) x
    → (Owes s (move_of s m e).after p x → Fails p (moves s (move_of s m e).after es) x) → Fails p (moves s m (e ∷ es)) x
now_at s m e es p ps x by never is live left has rest =
    let k : Machine = ready s m in
    let n : Machine = (move_of s m e).after in
    let same : pass_of k ≡ p = ap (λ (qs : List Pass). slice_index_or qs 0 (numbered Copying 1)) is in
    subst (λ (q : Pass). JumpsNever q → k.passes ≡ q ∷ ps → Has n.map (taken q.phase) x
    → (Owes s n q x → Fails q (moves s n es) x) → Fails q (moves s m (e ∷ es)) x) same
    (λ never' is' has' rest'. now_fails s m e es ps x by never' is' live left has' rest')
    never is has rest

-- all passes are of the present one's phase or later
from_present : (qs : List Pass) (p : Pass) (ps : List Pass) → AreOrdered qs → qs ≡ p ∷ ps → All (IsFrom p) qs
from_present qs p ps ordered is =
    All-same (IsFrom p) qs (p ∷ ps) is
    (All-cons (IsFrom p) p ps (omega arith) (all_from p p ps refl (subst AreOrdered is ordered).0))

-- nothing is owed where no pass is left
pub none_owed : (ps : List Pass) (p : Pass) → no_pass_left ps ≡ true → Contains ps p → ⊥
none_owed [] p none has = omega (arith, has.1)
none_owed (q ∷ ps) p none has = absurd (cc)

-- Where a run goes on to its end, and leaves a position that is left of the domain with the status that a pass asks for
-- which was still to come to it, a read of that pass asked for it and failed, and the pass is one of retrying.
pub owed_fails : (s : Setting) (m : Machine) (es : List Event) (p : Pass) (x : ℕ) → IsSensible s → MayRun s m
    → IsRun s m es → no_pass_left (ready s (state_after s m es)).passes ≡ true → JumpsNever p
    → is_live s (state_after s m es) x ≡ true
    → x < length m.map → Has (state_after s m es).map (taken p.phase) x → Owes s m p x → Fails p (moves s m es) x
owed_fails s m [] p x ok may run over never live within has owes =
    let here : Owes s (ready s m) p x = owes_ready s m p x may.order may.passes within live (λ all. has) owes in
    absurd (none_owed (ready s m).passes p over (owes_contains s (ready s m) p x here))
owed_fails s m (e ∷ es) p x ok may run over never live within has owes =
    let k : Machine = ready s m in
    let n : Machine = (move_of s m e).after in
    let by : Moves s m e = moves_by s m e ok may (run_first s m e es run) in
    let more : IsRun s n es = run_rest s m e es run in
    let size : x < length n.map = omega (arith, by.steps.size, ap length (stays_ready s m).map, within) in
    let rest : Owes s n p x → Fails p (moves s n es) x =
    λ owes'. owed_fails s n es p x ok by.after more over never live size has owes' in
    let here : Owes s k p x =
    owes_ready s m p x may.order may.passes within (run_live s m (e ∷ es) x live)
    (λ all. back_run s m (e ∷ es) p x ok may run all has) owes in
    elim here [
      | Now ps is left ↦
          let all : All (IsFrom p) n.passes = from_present n.passes p ps by.before.passes is in
          now_at s m e es p ps x by never is (run_live s n es x live) left
          (back_run s n es p x ok by.after more (ready_all (IsFrom p) s n all) has) rest
      | Later later ↦ fails_later p (move_of s m e) (moves s n es) x (rest (Later later))
    ]
