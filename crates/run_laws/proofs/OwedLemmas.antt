-- Which passes still come to a position, and how a run goes on over passes.
use Rattle.std.proofs.Common.{◌≡◌, ℕ, ◌+◌, ◌<◌, true, false, All, Contains, List, [], ◌∷◌, length, drop, refl, sym, ap, subst, ◌∙◌, arith, ⊎_elim}
use Rattle.std.specs.List.{slice_get, slice_index_or}
use Rattle.std.proofs.lemmas.Bool.{and_from, cond_both, true≢false}
use Rattle.std.proofs.lemmas.List.Elements.{All-contains, All-contains_itself, All-drop, All-same, All-tail, All-weaker}
use Rattle.block_list.specs.Map.{Has}
use Rattle.block_list.proofs.StretchLemmas.{same_self}
use Rattle.rescue_rules.specs.declared.phase.Phase.TheVariants.{Copying}
use Rattle.rescue_rules.specs.Setting.{Setting}
use Rattle.rescue_rules.specs.Passes.{Pass, taken, numbered}
use Rattle.rescue_rules.specs.Machine.{Machine, pass_of, has_taken, is_live, IsWanted, IsRequest, has_request}
use Rattle.rescue_rules.specs.Step.{Event, is_trimming, step}
use Rattle.rescue_rules.specs.Moves.{begun, at_next, ready, no_pass_left}
use Rattle.rescue_rules.specs.MachineLaws.{IsInOrder, StepsBy, AsksFor}
use Rattle.rescue_rules.proofs.OverLemmas.{live_before}
use Rattle.rescue_rules.proofs.ReadyLemmas.{order_begun, spent_request}
use Rattle.rescue_rules.proofs.SearchLemmas.{request_seen}
use Rattle.run_laws.proofs.CursorLemmas.{IsLeft, asked_left, asked_past, left_before, left_begun, left_seen}
use Rattle.run_laws.proofs.OrderLemmas.{Follows, AreOrdered, IsFrom, follows_from, never_follows, contains_cases, contains_later}

-- A pass still comes to a position: it is the present one and has left it, or a later one.
pub data Owes (s : Setting) (m : Machine) (p : Pass) (x : ℕ) : Type 0 where
  Now : (ps : List Pass) → m.passes ≡ p ∷ ps → IsLeft s m x → Owes s m p x
  Later : Contains (drop 1 m.passes) p → Owes s m p x

-- What holds of all passes, and their order, stays so as a state goes on.
next_all : (P : Pass → Type 0) (s : Setting) (m : Machine) (ps : List Pass) → All P ps → All P (at_next s m ps).passes
next_all P s m [] all = all
next_all P s m (p ∷ ps) all =
    cond_both (has_request s (begun s m p ps)) (begun s m p ps) (at_next s m ps) (λ (k : Machine). All P k.passes)
    (λ on. all) (λ off. next_all P s m ps (All-tail P p ps all))

pub ready_all : (P : Pass → Type 0) (s : Setting) (m : Machine) → All P m.passes → All P (ready s m).passes
ready_all P s m all =
    cond_both (has_request s m) m (at_next s m (drop 1 m.passes)) (λ (k : Machine). All P k.passes)
    (λ on. all) (λ off. next_all P s m (drop 1 m.passes) (All-drop P 1 m.passes all))

next_ordered : (s : Setting) (m : Machine) (ps : List Pass) → AreOrdered ps → AreOrdered (at_next s m ps).passes
next_ordered s m [] ordered = tt
next_ordered s m (p ∷ ps) ordered =
    cond_both (has_request s (begun s m p ps)) (begun s m p ps) (at_next s m ps) (λ (k : Machine). AreOrdered k.passes)
    (λ on. ordered) (λ off. next_ordered s m ps ordered.1)

ordered_drop : (ps : List Pass) → AreOrdered ps → AreOrdered (drop 1 ps)
ordered_drop [] ordered = tt
ordered_drop (p ∷ ps) ordered = ordered.1

pub ready_ordered : (s : Setting) (m : Machine) → AreOrdered m.passes → AreOrdered (ready s m).passes
ready_ordered s m ordered =
    cond_both (has_request s m) m (at_next s m (drop 1 m.passes)) (λ (k : Machine). AreOrdered k.passes)
    (λ on. ordered) (λ off. next_ordered s m (drop 1 m.passes) (ordered_drop m.passes ordered))

-- what is owed later is owed by one of the passes
contains_drop : (ps : List Pass) (p : Pass) → Contains (drop 1 ps) p → Contains ps p
contains_drop [] p has = has
contains_drop (q ∷ ps) p has = contains_later q ps p has

pub owes_contains : (s : Setting) (m : Machine) (p : Pass) (x : ℕ) → Owes s m p x → Contains m.passes p
owes_contains s m p x owes =
    elim owes [
      | Now ps is left ↦ subst (λ (qs : List Pass). Contains qs p) (sym is) (0, omega arith, refl)
      | Later has ↦ contains_drop m.passes p has
    ]

-- A state that goes on owes nothing that it didn't owe,
pub owed_before : (s : Setting) (m : Machine) (p : Pass) (x : ℕ) → Owes s (ready s m) p x → Owes s m p x
owed_before s m p x =
    cond_both (has_request s m) m (at_next s m (drop 1 m.passes)) (λ (k : Machine). Owes s k p x → Owes s m p x)
    (λ on owes. owes)
    (λ off owes.
    let all : All (Contains (drop 1 m.passes)) (at_next s m (drop 1 m.passes)).passes =
    next_all (Contains (drop 1 m.passes)) s m (drop 1 m.passes) (All-contains_itself (drop 1 m.passes)) in
    Later (All-contains (Contains (drop 1 m.passes)) (at_next s m (drop 1 m.passes)).passes p all
    (owes_contains s (at_next s m (drop 1 m.passes)) p x owes)))

-- a position that is left of the domain with a pass's status is wanted there
pub wanted_in : (s : Setting) (m : Machine) (p : Pass) (ps : List Pass) (x : ℕ) → m.passes ≡ p ∷ ps → is_live s m x ≡ true
    → Has m.map (taken p.phase) x → IsWanted s m x
wanted_in s m p ps x is inside has =
    let takes : has_taken m.passes (slice_get m.map x) ≡ true =
    ap (λ (qs : List Pass). has_taken qs (slice_get m.map x)) is ∙ ap (has_taken (p ∷ ps)) has
    ∙ same_self (taken p.phase) in
    and_from (is_live s m x) (has_taken m.passes (slice_get m.map x)) inside takes

-- passes that follow one are of its phase or later
pub all_from : (q p : Pass) (ps : List Pass) → q ≡ p → All (Follows q) ps → All (IsFrom p) ps
all_from q p ps same all =
    subst (λ (r : Pass). All (IsFrom r) ps) same (All-weaker (Follows q) (IsFrom q) (follows_from q) ps all)

-- and still owes what it did, where the position has that pass's status once all passes are of its phase or later.
owes_next : (s : Setting) (m : Machine) (ps : List Pass) (p : Pass) (x : ℕ) → Contains ps p → AreOrdered ps
    → x < length m.map → is_live s m x ≡ true → (All (IsFrom p) (at_next s m ps).passes → Has m.map (taken p.phase) x)
    → Owes s (at_next s m ps) p x
owes_next s m [] p x has ordered within inside back = absurd (omega (arith, has.1))
owes_next s m (q ∷ ps) p x has ordered within inside back =
    cond_both (has_request s (begun s m q ps)) (begun s m q ps) (at_next s m ps)
    (λ (k : Machine). (All (IsFrom p) k.passes → Has m.map (taken p.phase) x) → Owes s k p x)
    (λ on then. ⊎_elim
    (λ (here : q ≡ p). Now ps (ap (λ (r : Pass). r ∷ ps) here) (left_begun s m q ps x within (live_before s m x inside)))
    (λ (later : Contains ps p). Later later)
    (contains_cases q ps p has))
    (λ off then. ⊎_elim
    (λ (here : q ≡ p).
    let n : Machine = begun s m q ps in
    let is : n.passes ≡ p ∷ ps = ap (λ (r : Pass). r ∷ ps) here in
    let has' : Has m.map (taken p.phase) x = then (all_from q p (at_next s m ps).passes here
    (next_all (Follows q) s m ps ordered.0)) in
    let on : has_request s n ≡ true =
    left_seen s n x (order_begun s m q ps) (wanted_in s n p ps x is inside has') (left_begun s m q ps x within (live_before s m x inside)) in
    absurd (true≢false (sym on ∙ off)))
    (λ (later : Contains ps p). owes_next s m ps p x later ordered.1 within inside then)
    (contains_cases q ps p has))
    back

pub owes_ready : (s : Setting) (m : Machine) (p : Pass) (x : ℕ) → IsInOrder s m → AreOrdered m.passes → x < length m.map
    → is_live s m x ≡ true → (All (IsFrom p) (ready s m).passes → Has m.map (taken p.phase) x) → Owes s m p x
    → Owes s (ready s m) p x
owes_ready s m p x inorder ordered within inside back owes =
    cond_both (has_request s m) m (at_next s m (drop 1 m.passes))
    (λ (k : Machine). (All (IsFrom p) k.passes → Has m.map (taken p.phase) x) → Owes s k p x)
    (λ on then. owes)
    (λ off then. elim owes [
      | Now ps is left ↦
          let rest : drop 1 m.passes ≡ ps = ap (λ (qs : List Pass). drop 1 qs) is in
          let follow : All (Follows p) (drop 1 m.passes) =
          All-same (Follows p) (drop 1 m.passes) ps rest (subst AreOrdered is ordered).0 in
          let has : Has m.map (taken p.phase) x =
          then (all_from p p (at_next s m (drop 1 m.passes)).passes refl
          (next_all (Follows p) s m (drop 1 m.passes) follow)) in
          let on : has_request s m ≡ true = left_seen s m x inorder (wanted_in s m p ps x is inside has) left in
          absurd (true≢false (sym on ∙ off))
      | Later has ↦ owes_next s m (drop 1 m.passes) p x has (ordered_drop m.passes ordered) within inside then
    ])
    back

-- A state with a request is in a pass.
pub passes_are : (s : Setting) (m : Machine) → has_request s m ≡ true → (ps : List Pass) × (m.passes ≡ pass_of m ∷ ps)
passes_are s m on = of m.passes refl
  where
    of : (ps : List Pass) → m.passes ≡ ps → (qs : List Pass) × (m.passes ≡ pass_of m ∷ qs)
    of [] is = absurd (true≢false (sym on ∙ spent_request s m (ap no_pass_left is)))
    of (p ∷ ps) is = (
      ps,
      is ∙ ap (λ (q : Pass). q ∷ ps) (sym (ap (λ (qs : List Pass). slice_index_or qs 0 (numbered Copying 1))
          is)),
    )

-- What an event asks for was owed by its pass, and isn't any more; and nothing is owed that wasn't.
pub asked_owed : (s : Setting) (m : Machine) (e : Event) (x : ℕ)
    → IsRequest s m e.reading.pos (e.reading.pos + e.reading.asked) → StepsBy s m e → AsksFor e.reading x
    → Owes s m (pass_of m) x
asked_owed s m e x request by asks =
    let on : has_request s m ≡ true = request_seen s m e.reading.pos (e.reading.pos + e.reading.asked) request in
    Now (passes_are s m on).0 (passes_are s m on).1 (asked_left s m e x request by asks)

pub asked_paid : (s : Setting) (m : Machine) (e : Event) (x : ℕ) → is_trimming m ≡ false → AreOrdered m.passes
    → IsRequest s m e.reading.pos (e.reading.pos + e.reading.asked) → StepsBy s m e → AsksFor e.reading x
    → Owes s (step s m e) (pass_of m) x → ⊥
asked_paid s m e x off ordered request by asks owes =
    let p : Pass = pass_of m in
    let on : has_request s m ≡ true = request_seen s m e.reading.pos (e.reading.pos + e.reading.asked) request in
    let is : m.passes ≡ p ∷ (passes_are s m on).0 = (passes_are s m on).1 in
    let follow : All (Follows p) (drop 1 m.passes) =
    All-same (Follows p) (drop 1 m.passes) (passes_are s m on).0 (ap (λ (qs : List Pass). drop 1 qs) is)
    (subst AreOrdered is ordered).0 in
    elim owes [
      | Now ps at left ↦ asked_past s m e x off by asks left
      | Later has ↦ never_follows p (All-contains (Follows p) (drop 1 m.passes) p follow has)
    ]

pub owed_step : (s : Setting) (m : Machine) (e : Event) (p : Pass) (x : ℕ)
    → IsRequest s m e.reading.pos (e.reading.pos + e.reading.asked) → StepsBy s m e → Owes s (step s m e) p x
    → Owes s m p x
owed_step s m e p x request by owes =
    elim owes [
      | Now ps is left ↦ Now ps is (left_before s m e x request by left)
      | Later has ↦ Later has
    ]
